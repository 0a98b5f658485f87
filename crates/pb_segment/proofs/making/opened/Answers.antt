use Rattle.std.proofs.Common.{rules, ◌≡◌, ◌∙◌, ◌+◌, ℕ, ap, sym, [], List, length, replicate}
use Rattle.std.proofs.lemmas.List.{length-replicate}
use Rattle.pb_segment.specs.Blocks.{happened_in}
use Rattle.pb_segment.specs.Origins.{origin_of}
use Rattle.pb_segment.proofs.NewWorlds.{own_origin}
use Rattle.pb_segment.proofs.Replaying.{kept_new}
use Rattle.pb_segment.proofs.making.opened.Goals as goal

pub invariant_of-result-2 : goal.invariant_of-result-2
invariant_of-result-2 g c =
    let world = c.args.world in
    let turns = c.in_ok-no_turns.field-0.items in
    let none : happened_in c.new-2.result ≡ [] = c.new-2.ensures in
    let none-2 : c.new-3.result.items ≡ [] = search rules in
    let origin : c.in_ok-of.field-0 ≡ origin_of world = c.in_ok-of.ensures in
    let zeros : turns ≡ replicate (length world.taps) 0 = c.in_ok-no_turns.ensures ∙ ap (λ (n : ℕ). replicate n 0) c.taps-taps.ensures in
    let len : length turns ≡ length world.taps = ap (λ (l : List ℕ). length l) zeros ∙ length-replicate (length world.taps) 0 in (
      rw (c.world.view_is, origin, none, none-2) (kept_new (origin_of world) world turns c.args.limit (own_origin world c.requires.new) c.requires.new zeros c.requires.most),
      rw none c.requires.empty,
      c.requires.one_each ∙ ap (λ (n : ℕ). n + 1) (sym len),
    )

pub of-requires : goal.of-requires
of-requires g c = own_origin c.args.world c.requires.new
