use Rattle.std.proofs.Common.{rules, ◌≡◌, ap, map}
use Rattle.std.specs.Option.{option_map}
use Rattle.std.proofs.lemmas.Iterator.{YieldsList-from_slice}
use Rattle.std.proofs.lemmas.Iterator.Search.{find_from_yields_List}
use Rattle.law_model.specs.Medium.{fills_burst_to, entry_characters, burst_characters}
use Rattle.pb_medium.specs.Entries.{entry_of}
use Rattle.pb_taps.specs.Taps.{tap_of}
use Rattle.pb_medium.proofs.Sensing.{found-map}
use Rattle.pb_medium.proofs.senses.filling_telegram.Goals as goal
use borrow.Author.Tests.{tests}

pub returns : goal.returns
returns c =
    let entries = c.args.entries.now in
    let p = c.args.position in
    let t = tap_of c.args.tap.now in
    let test = fills_burst_to c.args.delay p t (map entry_of entries) c.args.moment in
    let burst : entry_characters p (option_map (λ e. entry_of e.now) c.find-filling.result) ≡ burst_characters c.args.delay p t (map entry_of entries) c.args.moment
    = ap (entry_characters p) (found-map test entry_of (λ e. e.now) entries c.find-filling.result
    (find_from_yields_List (λ e. test (entry_of e)) _ _ c.find-filling.result c.find-filling.ensures.ran (YieldsList-from_slice entries cc) (λ x b q k. search (rules, tests)))) in
    rw (← burst) (c.telegram_in.ensures p)
