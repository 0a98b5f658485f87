-- The bus is never dead along lists of actions, and what they promise of the worlds that they lead to.
use Rattle.std.proofs.Common.{◌≡◌, ℕ, ◌+◌, ◌-◌, ◌<◌, ◌≤◌, Bool, true, false, List, [], ◌∷◌, ◌++◌, refl, sym, ◌∙◌, subst, arith, None}
use Rattle.std.proofs.lemmas.Option.{none-some}
use Rattle.pb_timers.specs.Timers.{Params}
use Rattle.law_model.specs.Medium.{Tap}
use Rattle.law_model.specs.World.{World}
use Rattle.law_runs.specs.Activity.{is_silent}
use Rattle.law_runs.specs.Premises.{Waited, Course, has_namesakes, loses, comes_late, two_have_waited, first_number, waited_by, broken_by, broken_or, followed}
use Rattle.law_token.specs.Actions.{Action, Happens, Sets, AreActions, LeadsTo, with_world, course_by}
use Rattle.law_token.specs.Invariant.{Invariant}
use Rattle.law_token.specs.Promises.{IsMasterAt}
use Rattle.law_token.proofs.bus.NewWorlds.{new_invariant}
use Rattle.law_token.proofs.quiet.Watched.{Watch, event_watches, new_watches}
use Rattle.law_token.proofs.replies.Actions.{unbroken_by, one_token_of_actions, none_in_silence_of_actions}
use Rattle.law_token.proofs.replies.Kept.{data_invariant}
use Rattle.law_token.proofs.replies.Silence.{data_watches, watched_silence}
use Rattle.law_token.proofs.whole.Induction.{event_invariant}
use Rattle.law_token.proofs.whole.Keeping.{fits_valid}
use Rattle.law_live.specs.Actions.{NeverDeadByActions, ActedTo, KeepsPromisesBy, ActionsLeadOn, NewWorldsAct}
use Rattle.law_live.specs.Flow.{Flow}
use Rattle.law_live.specs.NeverDead.{cycle, cycle_to_reply, longest_without, has_token_since, has_noise_since}
use Rattle.law_live.proofs.Events.{began_now, event_flow, new_flow}
use Rattle.law_live.proofs.NoToken.{silent_then}
use Rattle.law_live.proofs.OtherData.{data_flow}

-- ---- a premise that is not broken

-- where no premise breaks, no telegram is lost and no turn comes late
numbers : (a b c d : Bool) → first_number a b c d ≡ None → (b ≡ false) × (c ≡ false)
numbers true b c d e = absurd (none-some 1 (sym e))
numbers false true c d e = absurd (none-some 2 (sym e))
numbers false false true d e = absurd (none-some 3 (sym e))
numbers false false false d e = (refl, refl)

-- a test that fails does not hold
not_both : (b : Bool) → b ≡ false → b ≡ true → ⊥
not_both b e f = let w : false ≡ true = sym e ∙ f in cc

-- ---- what actions leave

record ActsKeep (p : Params) (next : World) : Type 0 where
  all : List Waited
  invariant : Invariant next all
  flow : Flow next
  watch : Watch p next

acts_left : (actions : List Action) (p : Params) (w next : World) (waited : List Waited) → AreActions actions → LeadsTo w actions next
    → (course_by (record { world = w; waited = waited; broken = None }) actions).broken ≡ None → Invariant w waited → Flow w → Watch p w → ActsKeep p next
acts_left [] p w next waited are leads none i f k =
    subst (λ z. ActsKeep p z) leads (record { all = waited; invariant = i; flow = f; watch = k })
acts_left (Happens e ∷ more) p w next waited are leads none i f k =
    let between = leads.0 in
    let new = waited_by between 0 between.taps in
    let all = new ++ waited in
    let go : (course_by (record { world = between; waited = all; broken = broken_or None between.now (broken_by w e between new all) }) more).broken ≡ None =
    subst (λ r. (course_by (followed (record { world = w; waited = waited; broken = None }) e r) more).broken ≡ None) leads.1.1 none in
    let breaks = unbroken_by between all between.now more (broken_by w e between new all) go in
    let both = numbers (has_namesakes between.taps) (loses e) (comes_late w e) (two_have_waited between.params.ttd new all) breaks in
    let j = event_invariant w e waited between leads.1.0 leads.1.1 are.0 breaks i in
    acts_left more p between next all are.1 leads.2
    (subst (λ o. (course_by (record { world = between; waited = all; broken = broken_or None between.now o }) more).broken ≡ None) breaks go)
    j (event_flow w e waited all between leads.1.0 leads.1.1 i j f) (event_watches w e p between leads.1.0 leads.1.1 are.0 (not_both (loses e) both.0) (not_both (comes_late w e) both.1) k)
acts_left (Sets tap unit ∷ more) p w next waited are leads none i f k =
    let between = leads.0 in
    let c : Course = record { world = w; waited = waited; broken = None } in
    acts_left more p between next waited are.1 leads.2 (subst (λ r. (course_by (with_world c r) more).broken ≡ None) leads.1 none)
    (data_invariant w between waited tap unit are.0 leads.1 i) (data_flow w between tap unit leads.1 f) (data_watches p w between tap unit are.0 leads.1 k)

-- ---- the bus is never dead

-- else the bus has been silent since the end of the last holder's time, for longer than the silence bound
never_dead_at : (p : Params) (w : World) → ActsKeep p w → (tap m : ℕ) (t : Tap) → IsMasterAt w tap t → t.since ≤ m → m + longest_without w.params t.spec.address < w.now → has_noise_since m w ≡ false
    → (b : Bool) → has_token_since m w ≡ b → b ≡ true
never_dead_at p w left tap m t is since late noise true e = refl
never_dead_at p w left tap m t is since late noise false e =
    let end = m + (w.params.ttr - 1) + cycle w.params + cycle_to_reply w.params in
    let silent : is_silent 0 tap w.trace end w.now ≡ true = silent_then w m tap left.flow (began_now w left.all left.invariant) noise e in
    let h = (watched_silence p w left.watch).at_speakers tap end w.now t is (omega (arith, since)) (omega (arith, late)) (omega arith) silent in
    absurd (omega (arith, h, late))

pub never_dead_by_actions : NeverDeadByActions
never_dead_by_actions p specs actions new w valid has none tap m t is since late noise =
    let fits = fits_valid p valid in
    let left = acts_left actions p new w [] has.are has.leads none (new_invariant p specs new fits has.fit has.made) (new_flow p specs new valid.reply_in_time has.made) (new_watches p specs new fits has.fit has.made) in
    never_dead_at p w left tap m t is since late noise (has_token_since m w) refl

-- ---- promises

pub kept_by_actions : (start w : World) (actions : List Action) → ActedTo start actions w → KeepsPromisesBy start actions w
kept_by_actions start w actions to = record {
  token = one_token_of_actions to.p to.specs actions start w to.valid to.acted;
  live = never_dead_by_actions to.p to.specs actions start w to.valid to.acted;
  silence = none_in_silence_of_actions to.p to.specs actions start w to.valid to.acted;
}

pub new_acts : NewWorldsAct
new_acts p specs w valid fit made =
    let to : ActedTo w [] w = record { p = p; specs = specs; valid = valid; acted = record { fit = fit; are = tt; made = made; leads = refl } } in
    (to, kept_by_actions w w [] to)

-- two lists, one after the other
pub leads_join : (xs ys : List Action) (w between next : World) → LeadsTo w xs between → LeadsTo between ys next → LeadsTo w (xs ++ ys) next
leads_join [] ys w between next a b = subst (λ z. LeadsTo z ys next) (sym a) b
leads_join (x ∷ xs) ys w between next a b = (a.0, a.1, leads_join xs ys a.0 between next a.2 b)

pub actions_join : (xs ys : List Action) → AreActions xs → AreActions ys → AreActions (xs ++ ys)
actions_join [] ys a b = b
actions_join (x ∷ xs) ys a b = (a.0, actions_join xs ys a.1 b)

pub actions_lead_on : ActionsLeadOn
actions_lead_on w next actions are leads start before to =
    let acted = to.acted in
    let on : ActedTo start (before ++ actions) next = record {
      p = to.p;
      specs = to.specs;
      valid = to.valid;
      acted = record { fit = acted.fit; are = actions_join before actions acted.are are; made = acted.made; leads = leads_join before actions start w next acted.leads leads };
    } in
    (on, kept_by_actions start next (before ++ actions) on)
