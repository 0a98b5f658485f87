use Rattle.std.proofs.Common.{rules, arith, ◌≡◌, ◌≤◌, ◌∙◌, ap, sym, subst, [], ◌∷◌, map, length, Some, None}
use Rattle.std.specs.Prelude.{take}
use Rattle.std.proofs.lemmas.List.{length-take-le}
use Rattle.law_turn.specs.Spans.{Span}
use Rattle.law_model.specs.Trace.{Sent, Noise}
use Rattle.pb_medium.specs.Entries.{entry_of, record_of}
use Rattle.pb_medium.specs.Lone.{IsPlain, IsLone}
use Rattle.pb_medium.proofs.Alone.{lone-noise, lone-sent, one-of}
use Rattle.pb_medium.proofs.lone.lone_in.Goals as goal

pub returns-in-Noise : goal.returns-in-Noise
returns-in-Noise c =
    let span : Span = record { begin = c.in-Noise.begin; end = c.in-Noise.end } in
    let one : map entry_of c.args.entries.now ≡ Noise span ∷ [] =
    ap (map entry_of) (one-of c.args.entries.now c.only-item.result c.only-item.is c.in-len1.len_at_least c.in-len1.len_below) ∙ ap (λ e. entry_of e ∷ []) c.in-Noise.is in
    subst (IsLone c.args.delay (record { speaker = None; span = c.new.result; octets = None })) (sym one)
    (subst (λ (s : Span). IsLone c.args.delay (record { speaker = None; span = s; octets = None }) (Noise span ∷ [])) (sym c.new.ensures) (lone-noise c.args.delay span))

pub returns-in-Sent : goal.returns-in-Sent
returns-in-Sent c =
    let r = record_of c.in-Sent.telegram in
    let one : map entry_of c.args.entries.now ≡ Sent r ∷ [] =
    ap (map entry_of) (one-of c.args.entries.now c.only-item.result c.only-item.is c.in-len1.len_at_least c.in-len1.len_below) ∙ ap (λ e. entry_of e ∷ []) c.in-Sent.is in
    let plain : IsPlain r = c.is_plain.ensures (search rules) in
    let octets = take c.sent_octets.result c.deref.result.now in
    let sent : octets ≡ take c.sent_octets.result r.octets = ap (take c.sent_octets.result) c.deref.ensures.0 in
    let few : length octets ≤ 255 =
    let all : length c.deref.result.now ≤ 255 = c.deref.ensures.1 in
    omega (arith, all, ap (λ os. length os) sent, ap (λ os. length os) c.deref.ensures.0, c.sent_octets.ensures.bound, length-take-le c.sent_octets.result r.octets c.sent_octets.ensures.bound) in
    subst (IsLone c.args.delay (record { speaker = Some r.tap; span = c.reaches.result; octets = Some octets })) (sym one)
    (subst (λ (s : Span). IsLone c.args.delay (record { speaker = Some r.tap; span = s; octets = Some octets }) (Sent r ∷ [])) (sym c.reaches.ensures)
    (lone-sent c.args.delay r octets plain (sent ∙ c.sent_octets.ensures.count) few))
