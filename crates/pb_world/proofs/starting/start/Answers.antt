use Rattle.std.proofs.Common.{ap, sym, ◌∙◌, Bool, map}
use Rattle.std.specs.Prelude.{slice_set}
use Rattle.std.specs.List.{list_any}
use Rattle.std.proofs.lemmas.Option.{same_Some, slice_get_within}
use Rattle.law_model.specs.Step.{reaches_now}
use Rattle.pb_taps.specs.declared.taps.Tap.{Tap}
use Rattle.pb_medium.specs.Entries.{entry_of}
use Rattle.pb_world.specs.Starting.{fresh_tap}
use Rattle.pb_taps.proofs.Items.{found-at}
use Rattle.pb_world.proofs.starting.start.Goals as goal

pub returns-clause-ok : goal.returns-clause-ok
returns-clause-ok c =
    let taps = c.args.taps.now in
    let i = c.args.tap in
    let can = c.in_ok-check_start.ensures.ok in
    let x = can.0 in
    let here = c.index-taps-tap in
    let same = same_Some here.result x (sym (found-at taps i here.result (slice_get_within taps i x can.1) here.is) ∙ can.1) in (
      x,
      can.1,
      can.2,
      ap (slice_set taps i)
          (c.start_tap.ensures ∙ ap (λ (y : Tap). fresh_tap y c.is_reached-amid.result c.args.now) (sym here.is ∙ same)
          ∙ ap (λ (b : Bool). fresh_tap x b c.args.now) (c.is_reached-amid.ensures ∙ ap (λ n. list_any (reaches_now c.args.delay i n) (map entry_of c.args.entries.now)) c.get.ensures.value)),
    )
