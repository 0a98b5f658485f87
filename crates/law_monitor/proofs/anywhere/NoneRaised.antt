-- Of a legal and timely trace, so of a run that keeps the premises, a listener raises no alarm.
use Rattle.std.proofs.Common.{◌≡◌, ℕ, ◌*◌, ◌<◌, ◌≤◌, true, List, [], refl, sym, ◌∙◌, subst, arith, None, map}
use Rattle.pb_timers.specs.Timers.{Params}
use Rattle.law_model.specs.Trace.{Entry}
use Rattle.law_model.specs.Medium.{TapSpec}
use Rattle.law_model.specs.World.{World}
use Rattle.law_runs.specs.Headline.{specs_of}
use Rattle.law_runs.specs.Judging.{IsOrdered}
use Rattle.law_runs.specs.Legality.{is_legal_after, first_illegal}
use Rattle.law_token.specs.Actions.{Action, HasActed, first_broken_by}
use Rattle.law_token.specs.Places.{LeavesTime}
use Rattle.law_token.proofs.replies.Actions.{params_by, theorem_of_actions}
use Rattle.law_token.proofs.replies.Addresses.{illegal_same}
use Rattle.law_token.proofs.replies.Happen.{happen, acted_happen, kept_happen}
use Rattle.law_token.proofs.replies.Sound.{ordered_by}
use Rattle.law_token.proofs.whole.Keeping.{fits_valid}
use Rattle.law_live.specs.Flow.{Flow}
use Rattle.law_live.proofs.Events.{new_flow}
use Rattle.pb_monitor.specs.declared.alarms.Classes.{Classes}
use Rattle.pb_monitor.specs.declared.alarms.AlarmClass.TheVariants.{Legality}
use Rattle.pb_monitor.specs.Captures.{Burst, All, Has}
use Rattle.pb_monitor.specs.Judge.{listening, alarms, class_of}
use Rattle.pb_monitor.specs.Promises.{IsBySource, IsNotOfLegality}
use Rattle.law_monitor.specs.Captures.{HearsSince}
use Rattle.law_monitor.specs.Timely.{IsTimely, Successive, AllTimely, TimelyTracesRaiseNone}
use Rattle.law_monitor.specs.Actions.{RunsRaiseNoneByActions, RunsRaiseNoneAnywhereByActions, AlarmsProveABrokenPremiseByActions}
use Rattle.law_monitor.specs.Runs.{RunsRaiseNoneOfLegality, AlarmsOfLegalityProveABrokenPremise, RunsRaiseNone}
use Rattle.law_monitor.specs.Anywhere.{as_heard, RunsRaiseNoneAnywhere, AlarmsProveABrokenPremise}
use Rattle.law_monitor.proofs.Blind.{short_delay}
use Rattle.law_monitor.proofs.anywhere.Here.{GoodHere, all_inits, successive_inits}
use Rattle.law_monitor.proofs.anywhere.Judged.{heard_raises_none}
use Rattle.law_monitor.proofs.anywhere.Lone.{Lone, lone_kept}
use Rattle.law_monitor.proofs.anywhere.Told.{ComesAfter, Arrives, lone_arrives, legal_arrives, order_told, sources_told, good_told}
use Rattle.law_monitor.proofs.anywhere.Uniform.{uniform_anywhere}
use Rattle.law_monitor.proofs.sources.Worlds.{addresses_by, sources_by}
use Rattle.law_monitor.proofs.timely.Fillers.{legal_from, successive_both}
use Rattle.law_monitor.proofs.timely.Folds.{successive_by}
use Rattle.law_monitor.proofs.timely.Runs.{acts_have, timely_by}

-- ---- traces

traces_raise_none : (p : Params) (slack : ℕ) (c : Classes) (specs : List TapSpec) (delays : ℕ → ℕ) (trace : List Entry) (since : ℕ) (bs : List Burst) → 2 * p.ttd < p.tsl → ((tap : ℕ) → delays tap ≤ p.ttd) → All (IsBySource specs) trace → IsOrdered trace
    → first_illegal p specs trace ≡ None → AllTimely p specs trace → Successive (Arrives p specs delays trace) None trace → HearsSince 0 since (map (as_heard delays) trace) bs → alarms p slack c since (listening since) bs ≡ []
traces_raise_none p slack c specs delays trace since bs short near sources order legal timely arrives hears =
    heard_raises_none p slack c specs delays since trace bs short
    (order_told delays 0 0 None trace order (successive_by (Arrives p specs delays trace) (ComesAfter delays) None trace (λ l r h. h.0) arrives) refl)
    (all_inits (IsBySource specs) delays trace (sources_told specs delays trace sources))
    (successive_inits (λ l r. ((is_legal_after p specs trace l r ≡ true) × IsTimely p specs trace l r) × Arrives p specs delays trace l r) (GoodHere p specs delays (map (as_heard delays) trace)) delays None trace (good_told p specs delays trace near)
    (successive_both (λ l r. (is_legal_after p specs trace l r ≡ true) × IsTimely p specs trace l r) (Arrives p specs delays trace) None trace
    (successive_both (λ l r. is_legal_after p specs trace l r ≡ true) (IsTimely p specs trace) None trace (legal_from p specs trace None 0 trace legal) timely) arrives))
    hears

-- at the same delay from all taps
pub timely_raise_none : TimelyTracesRaiseNone
timely_raise_none p slack c specs trace since bs short sources order legal timely hears =
    traces_raise_none p slack c specs (λ _. p.ttd) trace since bs short (λ tap. omega arith) sources order legal timely
    (successive_by (λ l r. is_legal_after p specs trace l r ≡ true) (Arrives p specs (λ _. p.ttd) trace) None trace (legal_arrives p specs trace order) (legal_from p specs trace None 0 trace legal))
    (uniform_anywhere p.ttd since trace bs hears)

-- ---- actions

legal_by : (p : Params) (specs : List TapSpec) (actions : List Action) (new w : World) → LeavesTime p → HasActed p specs actions new w → first_broken_by new actions ≡ None → first_illegal p specs w.trace ≡ None
legal_by p specs actions new w time has none =
    sym (illegal_same p (specs_of w) specs w.trace (addresses_by p specs actions new w has))
    ∙ subst (λ q. first_illegal q (specs_of w) w.trace ≡ None) (params_by p specs actions new w has) (theorem_of_actions p specs actions new w time has none).legal

pub raise_none_by : RunsRaiseNoneByActions
raise_none_by p specs actions new w slack c since bs is none =
    let has = is.acted in
    timely_raise_none p slack c specs w.trace since bs (short_delay p is.time) (sources_by p specs actions new w is.time.highest has) (ordered_by p specs actions new w has)
    (legal_by p specs actions new w is.time has none) (timely_by p specs actions new w is.time has none) is.hears

pub raises_none_anywhere_by : RunsRaiseNoneAnywhereByActions
raises_none_anywhere_by p specs actions new w delays slack c since bs is none =
    let time = fits_valid p is.valid in
    let has = is.acted in
    let order = ordered_by p specs actions new w has in
    traces_raise_none p slack c specs delays w.trace since bs (short_delay p time) is.near (sources_by p specs actions new w time.highest has) order
    (legal_by p specs actions new w time has none) (timely_by p specs actions new w time has none)
    (successive_by (Lone p specs w.trace) (Arrives p specs delays w.trace) None w.trace (lone_arrives p specs delays w.trace is.near order)
    (acts_have Lone Flow lone_kept p specs actions new w time has none (new_flow p specs new is.valid.reply_in_time has.made)))
    is.hears

pub broken_premise_by : AlarmsProveABrokenPremiseByActions
broken_premise_by p specs actions new w delays slack c since bs is alarm none = alarm (raises_none_anywhere_by p specs actions new w delays slack c since bs is none)

-- ---- events are actions

pub runs_raise_none : RunsRaiseNone
runs_raise_none p specs events new w slack c since bs is none =
    raise_none_by p specs (happen events) new w slack c since bs (record { time = is.time; acted = acted_happen p specs events new w is.run; hears = is.hears }) (kept_happen new events none)

pub raises_none_anywhere : RunsRaiseNoneAnywhere
raises_none_anywhere p specs events new w delays slack c since bs is none =
    raises_none_anywhere_by p specs (happen events) new w delays slack c since bs
    (record { valid = is.valid; acted = acted_happen p specs events new w is.run; near = is.near; hears = is.hears }) (kept_happen new events none)

pub broken_premise : AlarmsProveABrokenPremise
broken_premise p specs events new w delays slack c since bs is alarm none = alarm (raises_none_anywhere p specs events new w delays slack c since bs is none)

-- ---- so none of legality

pub none_of_legality : RunsRaiseNoneOfLegality
none_of_legality p specs events new w slack c since bs is none = subst (All (λ x. IsNotOfLegality x.1)) (sym (runs_raise_none p specs events new w slack c since bs is none)) tt

pub broken_of_legality : AlarmsOfLegalityProveABrokenPremise
broken_of_legality p specs events new w slack c since bs is has none = subst (Has (λ x. class_of x.1 ≡ Legality)) (runs_raise_none p specs events new w slack c since bs is none) has
