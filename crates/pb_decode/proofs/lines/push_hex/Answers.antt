use Rattle.std.proofs.Common.{rules, ◌≡◌, ◌++◌, None, ap, sym, ◌∙◌}
use Rattle.std.specs.Prelude.{IfOk, OnOk}
use Rattle.pb_decode.specs.Characters.{characters_of}
use Rattle.pb_decode.specs.Decoding.{hex_text, is_refused}
use Rattle.pb_decode.proofs.Pairs.{of_characters, no_characters}
use Rattle.pb_decode.proofs.lines.push_hex.Goals as goal

pub returns-then-feed_characters-clause-text : goal.returns-then-feed_characters-clause-text
returns-then-feed_characters-clause-text c =
    of_characters (characters_of c.args.line.now) c.feed_characters.new.receiver
    (λ found. OnOk c.push_answer.result (c.push_answer.new.text.items ≡ c.args.text.now.items ++ hex_text found))
    (search rules) c.feed_characters.ensures.fed c.push_answer.ensures.text

pub returns-then-feed_characters-clause-refused : goal.returns-then-feed_characters-clause-refused
returns-then-feed_characters-clause-refused c =
    of_characters (characters_of c.args.line.now) c.feed_characters.new.receiver
    (λ found. IfOk c.push_answer.result (λ refused. refused ≡ is_refused found))
    (search rules) c.feed_characters.ensures.fed c.push_answer.ensures.refused

pub returns-clause-text : goal.returns-clause-text
returns-clause-text c =
    let none : characters_of c.args.line.now ≡ None = no_characters (characters_of c.args.line.now) (search rules) in
    c.in_ok-extend_from_slice.ensures.items ∙ ap (λ found. c.args.text.now.items ++ hex_text found) (sym none)

pub returns-clause-refused : goal.returns-clause-refused
returns-clause-refused c =
    let none : characters_of c.args.line.now ≡ None = no_characters (characters_of c.args.line.now) (search rules) in
    ap is_refused (sym none)
