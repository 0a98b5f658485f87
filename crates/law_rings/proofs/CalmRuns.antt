-- Actions whose events keep the premises, and calm actions from a settled ring.
use Rattle.std.proofs.Common.{◌≡◌, ℕ, true, List, [], ◌∷◌, ◌++◌, subst, None}
use Rattle.std.specs.List.{list_all}
use Rattle.std.proofs.lemmas.Bool.{and_parts}
use Rattle.law_model.specs.World.{World}
use Rattle.law_runs.specs.Premises.{Waited, Course, waited_by, broken_by, broken_or, followed}
use Rattle.law_token.specs.Actions.{Action, Happens, Sets, AreActions, ActsTo, LeadsTo, with_world, course_by}
use Rattle.law_token.specs.Invariant.{Invariant}
use Rattle.law_token.proofs.replies.Actions.{unbroken_by}
use Rattle.law_token.proofs.replies.Kept.{data_invariant}
use Rattle.law_token.proofs.whole.Induction.{event_invariant}
use Rattle.law_live.specs.Flow.{Flow}
use Rattle.law_live.proofs.Acting.{actions_join}
use Rattle.law_live.proofs.Events.{event_flow}
use Rattle.law_live.proofs.OtherData.{data_flow}
use Rattle.law_rings.specs.Actions.{is_calm_action}
use Rattle.law_rings.specs.Receipts.{Rotating}
use Rattle.law_rings.proofs.CalmEvents.{calm_keeps_rotating}
use Rattle.law_rings.proofs.OtherData.{data_rotating}
use Rattle.law_rings.proofs.Reaching.{Undisturbed}

-- the premises are kept by actions after a world, given the taps that had waited out before
abbrev pub KeepsPremises : World → List Waited → List Action → Type 0
KeepsPremises w waited actions = (course_by (record { world = w; waited = waited; broken = None }) actions).broken ≡ None

-- what a world has to which such actions lead
pub record Sound (w : World) (waited : List Waited) : Type 0 where
  pub invariant : Invariant w waited
  pub flow : Flow w

-- what one action leaves
pub record OneOn (more : List Action) (next : World) : Type 0 where
  pub all : List Waited
  pub sound : Sound next all
  pub kept : KeepsPremises next all more

-- each action keeps what is known
one_on : (a : Action) (more : List Action) (w next : World) (waited : List Waited) → AreActions (a ∷ more) → ActsTo w a next → KeepsPremises w waited (a ∷ more) → Sound w waited → OneOn more next
one_on (Happens e) more w next waited are acts kept s =
    let new = waited_by next 0 next.taps in
    let all = new ++ waited in
    let go : (course_by (record { world = next; waited = all; broken = broken_or None next.now (broken_by w e next new all) }) more).broken ≡ None =
    subst (λ r. (course_by (followed (record { world = w; waited = waited; broken = None }) e r) more).broken ≡ None) acts.1 kept in
    let breaks = unbroken_by next all next.now more (broken_by w e next new all) go in
    let i = event_invariant w e waited next acts.0 acts.1 are.0 breaks s.invariant in
    record {
      all = all;
      sound = record { invariant = i; flow = event_flow w e waited all next acts.0 acts.1 s.invariant i s.flow };
      kept = subst (λ o. (course_by (record { world = next; waited = all; broken = broken_or None next.now o }) more).broken ≡ None) breaks go;
    }
one_on (Sets tap unit) more w next waited are acts kept s =
    let c : Course = record { world = w; waited = waited; broken = None } in
    record {
      all = waited;
      sound = record { invariant = data_invariant w next waited tap unit are.0 acts s.invariant; flow = data_flow w next tap unit acts s.flow };
      kept = subst (λ r. (course_by (with_world c r) more).broken ≡ None) acts kept;
    }

-- what the first actions leave for the others
pub acts_before : (before after : List Action) (w next : World) (waited : List Waited) → AreActions before → AreActions after → LeadsTo w before next → KeepsPremises w waited (before ++ after) → Sound w waited → OneOn after next
acts_before [] after w next waited are more leads kept s = subst (OneOn after) leads (record { all = waited; sound = s; kept = kept })
acts_before (a ∷ rest) after w next waited are more leads kept s =
    let one = one_on a (rest ++ after) w leads.0 waited (are.0, actions_join rest after are.1 more) leads.1 kept s in
    acts_before rest after leads.0 next one.all are.1 more leads.2 one.kept one.sound

-- calm actions from a ring whose receipts are in order leave it so
pub record CalmLeft (next : World) (base : ℕ) (members : List ℕ) : Type 0 where
  pub all : List Waited
  pub sound : Sound next all
  pub rotating : Rotating next base members

-- one of them
calm_on : (a : Action) (w next : World) (waited all : List Waited) (base : ℕ) (members : List ℕ) → is_calm_action a ≡ true → ActsTo w a next → Sound w waited → Sound next all → Rotating w base members → Rotating next base members
calm_on (Happens e) w next waited all base members calm acts s s' r =
    let u : Undisturbed w base members = record { waited = waited; invariant = s.invariant; flow = s.flow; ring = r.ring } in
    calm_keeps_rotating w e calm base members all next acts.0 acts.1 u r.rotates s'.invariant s'.flow
calm_on (Sets tap unit) w next waited all base members calm acts s s' r = data_rotating w next base members tap unit acts r

-- one after the other
pub calm_acts : (actions : List Action) (w next : World) (waited : List Waited) (base : ℕ) (members : List ℕ) → AreActions actions → LeadsTo w actions next → list_all is_calm_action actions ≡ true → KeepsPremises w waited actions → Sound w waited
    → Rotating w base members → CalmLeft next base members
calm_acts [] w next waited base members are leads calm kept s r = subst (λ z. CalmLeft z base members) leads (record { all = waited; sound = s; rotating = r })
calm_acts (a ∷ more) w next waited base members are leads calm kept s r =
    let b = and_parts (is_calm_action a) (list_all is_calm_action more) calm in
    let one = one_on a more w leads.0 waited are leads.1 kept s in
    calm_acts more leads.0 next one.all base members are.1 leads.2 b.1 one.kept one.sound (calm_on a w leads.0 waited one.all base members b.0 leads.1 s one.sound r)
