-- The theorem and the silence bound along lists of actions.
use Rattle.std.proofs.Common.{◌≡◌, ℕ, List, [], ◌∷◌, ◌++◌, refl, sym, ap, ◌∙◌, subst, Option, Some, None, Result, Ok, Err}
use Rattle.std.proofs.lemmas.Option.{none-some}
use Rattle.pb_timers.specs.Timers.{Params}
use Rattle.law_model.specs.Medium.{TapSpec}
use Rattle.law_model.specs.World.{World, Fault}
use Rattle.law_model.specs.Step.{step}
use Rattle.law_runs.specs.Headline.{specs_of}
use Rattle.law_runs.specs.Legality.{address_at}
use Rattle.law_runs.specs.Premises.{Waited, Broken, Course, waited_by, broken_by, broken_or, followed}
use Rattle.law_token.specs.Actions.{Action, Happens, Sets, AreActions, ActsTo, LeadsTo, HasActed, with_world, acted, course_by, NoneActsLate, TokenTheoremOfActions, OneTokenOfActions, NoneInSilenceOfActions}
use Rattle.law_token.specs.Data.{tap_with, set_data}
use Rattle.law_token.specs.Invariant.{Invariant}
use Rattle.law_token.proofs.bus.NewWorlds.{new_invariant}
use Rattle.law_token.proofs.quiet.Watched.{Watch, event_watches, new_watches}
use Rattle.law_token.proofs.replies.Addresses.{SameAddresses, set_addresses}
use Rattle.law_token.proofs.replies.Kept.{is_set, data_invariant}
use Rattle.law_token.proofs.replies.Silence.{data_watches, watched_silence}
use Rattle.law_token.proofs.whole.Induction.{event_invariant, holds_once}
use Rattle.law_token.proofs.whole.Keeping.{fits_valid, follow_stays}
use Rattle.law_token.proofs.whole.Readers.{in_readers_words}
use Rattle.law_token.proofs.whole.Stays.{same_bus, new_params}

-- ---- a premise that is broken stays so

acted_stays : (c : Course) (b : Broken) (a : Action) → c.broken ≡ Some b → (acted c a).broken ≡ Some b
acted_stays c b (Happens e) h = follow_stays c b e (step c.world e) h
acted_stays c b (Sets tap unit) h = by (set_data c.world tap unit)
  where
    by : (r : Result World Fault) → (with_world c r).broken ≡ Some b
    by (Ok next) = h
    by (Err fault) = h

stays_broken_by : (actions : List Action) (c : Course) (b : Broken) → c.broken ≡ Some b → (course_by c actions).broken ≡ Some b
stays_broken_by [] c b h = h
stays_broken_by (a ∷ more) c b h = stays_broken_by more (acted c a) b (acted_stays c b a h)

pub unbroken_by : (w : World) (all : List Waited) (clock : ℕ) (actions : List Action) (o : Option ℕ) → (course_by (record { world = w; waited = all; broken = broken_or None clock o }) actions).broken ≡ None → o ≡ None
unbroken_by w all clock actions None h = refl
unbroken_by w all clock actions (Some n) h =
    let b : Broken = record { number = n; clock = clock } in
    absurd (none-some b (sym h ∙ stays_broken_by actions (record { world = w; waited = all; broken = Some b }) b refl))

-- ---- the bus

-- its parameters and the addresses of its taps stay
pub record SameStations (w next : World) : Type 0 where
  pub params : next.params ≡ w.params
  pub addresses : SameAddresses (specs_of next) (specs_of w)

same_specs : (a b : List TapSpec) → a ≡ b → SameAddresses a b
same_specs a b e tap = ap (λ specs. address_at specs tap) e

pub data_stations : (w next : World) (tap : ℕ) (unit : List ℕ) → set_data w tap unit ≡ Ok next → SameStations w next
data_stations w next tap unit ok =
    let d = is_set w next tap unit ok in
    subst (SameStations w) d.is (record { params = refl; addresses = set_addresses w.taps tap d.t (tap_with d.t unit) d.here refl })

act_stations : (a : Action) (w next : World) → ActsTo w a next → SameStations w next
act_stations (Happens e) w next acts =
    let one = same_bus w next e acts.0 acts.1 in record { params = one.params; addresses = same_specs (specs_of next) (specs_of w) one.specs }
act_stations (Sets tap unit) w next acts = data_stations w next tap unit acts

pub same_stations : (actions : List Action) (w next : World) → LeadsTo w actions next → SameStations w next
same_stations [] w next leads = subst (SameStations w) leads (record { params = refl; addresses = λ tap. refl })
same_stations (a ∷ more) w next leads =
    let one = act_stations a w leads.0 leads.1 in
    let rest = same_stations more leads.0 next leads.2 in
    record { params = rest.params ∙ one.params; addresses = λ tap. rest.addresses tap ∙ one.addresses tap }

-- so they are those of the new bus
pub params_by : (p : Params) (specs : List TapSpec) (actions : List Action) (new w : World) → HasActed p specs actions new w → w.params ≡ p
params_by p specs actions new w has = (same_stations actions new w has.leads).params ∙ new_params p specs new has.made

-- ---- along a list

pub acts_keep : (actions : List Action) (w next : World) (waited : List Waited) → AreActions actions → LeadsTo w actions next
    → (course_by (record { world = w; waited = waited; broken = None }) actions).broken ≡ None → Invariant w waited → (all : List Waited) × Invariant next all
acts_keep [] w next waited are leads none i = (waited, subst (λ z. Invariant z waited) leads i)
acts_keep (Happens e ∷ more) w next waited are leads none i =
    let between = leads.0 in
    let new = waited_by between 0 between.taps in
    let all = new ++ waited in
    let go : (course_by (record { world = between; waited = all; broken = broken_or None between.now (broken_by w e between new all) }) more).broken ≡ None =
    subst (λ r. (course_by (followed (record { world = w; waited = waited; broken = None }) e r) more).broken ≡ None) leads.1.1 none in
    let breaks = unbroken_by between all between.now more (broken_by w e between new all) go in
    acts_keep more between next all are.1 leads.2
    (subst (λ o. (course_by (record { world = between; waited = all; broken = broken_or None between.now o }) more).broken ≡ None) breaks go)
    (event_invariant w e waited between leads.1.0 leads.1.1 are.0 breaks i)
acts_keep (Sets tap unit ∷ more) w next waited are leads none i =
    let c : Course = record { world = w; waited = waited; broken = None } in
    acts_keep more leads.0 next waited are.1 leads.2 (subst (λ r. (course_by (with_world c r) more).broken ≡ None) leads.1 none)
    (data_invariant w leads.0 waited tap unit are.0 leads.1 i)

acts_watch : (actions : List Action) (p : Params) (w next : World) → AreActions actions → LeadsTo w actions next → NoneActsLate w actions → Watch p w → Watch p next
acts_watch [] p w next are leads none k = subst (λ z. Watch p z) leads k
acts_watch (Happens e ∷ more) p w next are leads none k =
    acts_watch more p leads.0 next are.1 leads.2 (none.2 leads.0 leads.1.0 leads.1.1) (event_watches w e p leads.0 leads.1.0 leads.1.1 are.0 none.0 none.1 k)
acts_watch (Sets tap unit ∷ more) p w next are leads none k =
    acts_watch more p leads.0 next are.1 leads.2 (none leads.0 leads.1) (data_watches p w leads.0 tap unit are.0 leads.1 k)

-- ---- the laws

pub theorem_of_actions : TokenTheoremOfActions
theorem_of_actions p specs actions new w fits has none =
    let k = acts_keep actions new w [] has.are has.leads none (new_invariant p specs new fits has.fit has.made) in holds_once w k.0 k.1

pub one_token_of_actions : OneTokenOfActions
one_token_of_actions p specs actions new w valid has none =
    let fits = fits_valid p valid in
    let k = acts_keep actions new w [] has.are has.leads none (new_invariant p specs new fits has.fit has.made) in
    in_readers_words w k.1.settled (holds_once w k.0 k.1)

pub none_in_silence_of_actions : NoneInSilenceOfActions
none_in_silence_of_actions p specs actions new w valid has none =
    watched_silence p w (acts_watch actions p new w has.are has.leads none (new_watches p specs new (fits_valid p valid) has.fit has.made))
