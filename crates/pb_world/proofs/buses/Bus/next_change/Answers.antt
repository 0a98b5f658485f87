use Rattle.std.proofs.Common.{◌≡◌, ◌≢◌, ◌∙◌, ◌⊎◌, inl, inr, ap, sym, subst, ◌+◌, ◌≤◌, ◌<◌, ◌==◌, ◌&&◌, Bool, true, false, List, [], ◌∷◌, length, get_or, map, arith, Some, None, if◌then◌else◌}
use Rattle.std.proofs.Math.Bool.{and-false}
use Rattle.std.proofs.lemmas.Bool.Decides.{eqb_tells}
use Rattle.std.proofs.lemmas.List.{nil_from_length}
use Rattle.std.specs.Prelude.{IfSome}
use Rattle.std.specs.List.{list_any}
use Rattle.pb_timers.specs.Timers.{last_moment}
use Rattle.law_turn.specs.Stations.{earlier}
use Rattle.law_model.specs.Laws.{AllBegun}
use Rattle.law_model.specs.World.{next_end_of, clock_limit}
use Rattle.law_runs.specs.Bus.{is_in_air, next_known, started_now}
use Rattle.pb_taps.specs.Taps.{tap_of}
use Rattle.pb_taps.specs.declared.taps.Tap.{Tap}
use Rattle.pb_medium.specs.Entries.{entry_of}
use Rattle.pb_medium.specs.Traces.{over_of, entries_of, recent_of}
use Rattle.pb_world.specs.Buses.{world_of}
use Rattle.pb_world.specs.Changes.{change_among}
use Rattle.pb_world.specs.Ends.{AllBy, last_end}
use Rattle.pb_world.proofs.Passing.{some-by}
use Rattle.pb_world.proofs.Changing.{start_known, by-drop, change-recent, recent-begun, recent-by, known-by}
use Rattle.pb_world.proofs.buses.Bus.next_change.Goals as goal

pub known_of-begin-requires : goal.known_of-begin-requires
known_of-begin-requires c =
    let bus = c.args.self.now in
    let delay = bus.params.ttd in
    let begins = c.next_begin.ensures ∙ ap (λ d. next_known d c.get-2.result (map entry_of c.recent-recent.result.now)) c.ttd-delay.ensures
    ∙ ap (λ n. next_known delay n (map entry_of c.recent-recent.result.now)) c.get-2.ensures.value ∙ ap (next_known delay bus.now) c.recent-recent.ensures in
    some-by (clock_limit + delay) last_end c.next_begin.result (omega (arith, c.ttd-delay.type_inv, c.ttd-delay.ensures))
    (known-by clock_limit delay bus.now (over_of bus.trace) (entries_of bus.trace) c.next_begin.result begins c.requires.clock c.requires.sound.begun)

pub moment_of-end-requires : goal.moment_of-end-requires
moment_of-end-requires c =
    let bus = c.args.self.now in
    let delay = bus.params.ttd in
    let ends = c.next_end.ensures ∙ ap (λ d. next_end_of d c.get-3.result (map entry_of c.recent-recent.result.now)) c.ttd-delay.ensures
    ∙ ap (λ n. next_end_of delay n (map entry_of c.recent-recent.result.now)) c.get-3.ensures.value ∙ ap (next_end_of delay bus.now) c.recent-recent.ensures in
    some-by (last_end + delay) last_moment c.next_end.result (omega (arith, c.ttd-delay.type_inv, c.ttd-delay.ensures))
    (subst (λ o. IfSome o (λ t. t ≤ last_end + delay)) (sym ends) (recent-by last_end delay bus.now (over_of bus.trace) (entries_of bus.trace) c.requires.ends))

pub returns : goal.returns
returns c =
    let bus = c.args.self.now in
    let w = world_of bus in
    let delay = bus.params.ttd in
    let recent = recent_of bus.trace in
    let rest = map entry_of c.recent-recent.result.now in
    let ends = c.next_end.ensures ∙ ap (λ d. next_end_of d c.get-3.result rest) c.ttd-delay.ensures
    ∙ ap (λ n. next_end_of delay n rest) c.get-3.ensures.value ∙ ap (next_end_of delay bus.now) c.recent-recent.ensures in
    let begins = c.next_begin.ensures ∙ ap (λ d. next_known d c.get-2.result rest) c.ttd-delay.ensures
    ∙ ap (λ n. next_known delay n rest) c.get-2.ensures.value ∙ ap (next_known delay bus.now) c.recent-recent.ensures in
    let amid = c.something_lasts-amid.ensures ∙ ap (λ d. list_any (is_in_air d c.get.result) rest) c.ttd-delay.ensures
    ∙ ap (λ n. list_any (is_in_air delay n) rest) c.get.ensures.value ∙ ap (list_any (is_in_air delay bus.now)) c.recent-recent.ensures in
    let start = c.start_known-start.ensures
    ∙ ap (λ (ts : List Tap). if list_any (started_now bus.now) (map tap_of ts) && c.something_lasts-amid.result then Some (bus.now + 1) else None) c.deref-2.ensures.value
    ∙ ap (start_known w) amid in
    c.earlier-2.ensures
    ∙ ap (earlier c.moment_of-end.result) (c.earlier.ensures ∙ ap (λ o. earlier o c.start_known-start.result) (c.known_of-begin.ensures ∙ begins) ∙ ap (earlier (next_known delay bus.now recent)) start)
    ∙ ap (λ o. earlier o (earlier (next_known delay bus.now recent) (start_known w (list_any (is_in_air delay bus.now) recent)))) (c.moment_of-end.ensures ∙ ends)
    ∙ sym (change-recent w (over_of bus.trace) c.requires.cut)

no-items : {A : Type 0} (xs : List A) → (length xs == 0) ≡ true → xs ≡ []
no-items xs is =
    nil_from_length xs (by (eqb_tells (length xs) 0))
  where
    by : ((length xs == 0) ≡ true) × (length xs ≡ 0) ⊎ ((length xs == 0) ≡ false) × (length xs ≢ 0) → length xs ≡ 0
    by (inl zero) = zero.1
    by (inr (differs, apart)) = absurd cc

pub returns-then-is_empty : goal.returns-then-is_empty
returns-then-is_empty c =
    let bus = c.args.self.now in
    let w = world_of bus in
    let delay = bus.params.ttd in
    let none = no-items c.recent-recent.result.now (sym c.is_empty.ensures ∙ c.if-is_empty.true) in
    let recent : recent_of bus.trace ≡ [] = sym c.recent-recent.ensures ∙ ap (map entry_of) none in
    sym (change-recent w (over_of bus.trace) c.requires.cut
    ∙ ap (λ es. earlier (next_end_of delay bus.now es) (earlier (next_known delay bus.now es) (start_known w (list_any (is_in_air delay bus.now) es)))) recent
    ∙ ap (λ (b : Bool). if b then Some (bus.now + 1) else None) (and-false (list_any (started_now bus.now) w.taps)))

-- a list with one item
only-one : {A : Type 0} (xs : List A) (x : A) → 1 ≤ length xs → length xs < 2 → x ≡ get_or xs 0 x → xs ≡ x ∷ []
only-one [] x some few is = absurd (omega (arith, some))
only-one (y ∷ []) x some few is = ap (λ z. z ∷ []) (sym is)
only-one (y ∷ z ∷ zs) x some few is = absurd (omega (arith, few))

pub change_of-requires-clause-begun : goal.change_of-requires-clause-begun
change_of-requires-clause-begun c =
    let bus = c.args.self.now in
    let one : recent_of bus.trace ≡ entry_of c.only-item.result ∷ [] = sym c.recent-recent.ensures
    ∙ ap (map entry_of) (only-one c.recent-recent.result.now c.only-item.result c.in-len1.len_at_least c.in-len1.len_below c.only-item.is) in
    (subst (AllBegun bus.now) one (recent-begun bus.now (over_of bus.trace) (entries_of bus.trace) c.requires.sound.begun)).0

pub change_of-requires-clause-ends : goal.change_of-requires-clause-ends
change_of-requires-clause-ends c =
    let bus = c.args.self.now in
    let one : recent_of bus.trace ≡ entry_of c.only-item.result ∷ [] = sym c.recent-recent.ensures
    ∙ ap (map entry_of) (only-one c.recent-recent.result.now c.only-item.result c.in-len1.len_at_least c.in-len1.len_below c.only-item.is) in
    (subst (AllBy last_end) one (by-drop last_end (over_of bus.trace) (entries_of bus.trace) c.requires.ends)).0

pub returns-in-len1 : goal.returns-in-len1
returns-in-len1 c =
    let bus = c.args.self.now in
    let delay = bus.params.ttd in
    let e = entry_of c.only-item.result in
    let one : recent_of bus.trace ≡ e ∷ [] = sym c.recent-recent.ensures
    ∙ ap (map entry_of) (only-one c.recent-recent.result.now c.only-item.result c.in-len1.len_at_least c.in-len1.len_below c.only-item.is) in
    c.change_of.ensures
    ∙ ap (λ d. change_among d bus.now (e ∷ []) (map tap_of c.deref.result.now)) c.ttd-delay.ensures
    ∙ ap (λ (ts : List Tap). change_among delay bus.now (e ∷ []) (map tap_of ts)) c.deref.ensures.value
    ∙ ap (λ es. change_among delay bus.now es (map tap_of bus.taps.items)) (sym one)
    ∙ sym (change-recent (world_of bus) (over_of bus.trace) c.requires.cut)
