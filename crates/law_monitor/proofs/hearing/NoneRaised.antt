-- What a tap hears of a run that keeps the premises raises no alarm.
use Rattle.std.proofs.Common.{◌≡◌, ℕ, inl, inr, Bool, true, false, if◌then◌else◌, ◌==◌, ◌||◌, List, [], ◌∷◌, refl, ap, ◌∙◌, subst, arith, Some, None}
use Rattle.std.specs.Prelude.{slice_get}
use Rattle.std.proofs.lemmas.Bool.{eqb-true}
use Rattle.law_model.specs.Trace.{Entry, Sent, Noise}
use Rattle.law_model.specs.Medium.{reaches, is_unheard}
use Rattle.law_token.specs.Lists.{Each}
use Rattle.law_token.proofs.bus.NewWorlds.{new_invariant}
use Rattle.law_token.proofs.bus.Pairs.{Reaches}
use Rattle.law_token.proofs.turn.Records.{reaches_each}
use Rattle.law_token.proofs.replies.Actions.{acts_keep}
use Rattle.law_token.proofs.replies.Happen.{happen, acted_happen, kept_happen}
use Rattle.pb_monitor.specs.declared.alarms.Classes.{Classes}
use Rattle.pb_monitor.specs.Captures.{All}
use Rattle.pb_monitor.specs.Judge.{listening, alarms}
use Rattle.law_monitor.specs.Actions.{bursts_heard_by, TapsRaiseNoneByActions}
use Rattle.law_monitor.specs.Captures.{HearsSince}
use Rattle.law_monitor.specs.Taps.{IsSensed, IsOfOthers, TapsRaiseNone}
use Rattle.law_monitor.proofs.anywhere.NoneRaised.{raise_none_by}
use Rattle.law_monitor.proofs.hearing.Heard.{taps_capture_by, heard_happen}

-- what is another's, and not lost, is sensed
senses : (delay tap since : ℕ) (e : Entry) → IsOfOthers delay tap since e → Reaches tap e → IsSensed delay tap since e
senses delay tap since (Noise span) others reached = inr refl
senses delay tap since (Sent r) others reached = by (r.tap == tap) refl
  where
    by : (b : Bool) → (r.tap == tap) ≡ b → IsSensed delay tap since (Sent r)
    by true e = inl (others (eqb-true r.tap tap e))
    by false e = inr (ap (λ b. if b || is_unheard (slice_get r.heard tap) then None else Some (reaches delay r)) e ∙ ap (λ b. if b then None else Some (reaches delay r)) reached)

all_senses : (delay tap since : ℕ) (es : List Entry) → All (IsOfOthers delay tap since) es → Each (Reaches tap) es → All (IsSensed delay tap since) es
all_senses delay tap since [] others reached = tt
all_senses delay tap since (e ∷ es) others reached = (senses delay tap since e others.0 reached.0, all_senses delay tap since es others.1 reached.1)

pub taps_raise_none_by : TapsRaiseNoneByActions
taps_raise_none_by p specs actions new w tap t is =
    let has = is.acted in
    let kept = acts_keep actions new w [] has.are has.leads is.keeps (new_invariant p specs new is.time has.fit has.made) in
    let inv = kept.1.keeps.inv in
    let reached = reaches_each w.params w.now tap w.taps w.trace kept.0 inv.last w.trace inv.entries in
    let capture = taps_capture_by p specs actions new w tap t (record {
      highest = let h = is.time.highest in omega (arith, h);
      acted = has;
      here = is.here;
      running = is.running;
      senses = all_senses p.ttd tap t.since w.trace is.others reached;
    }) in
    (capture, λ slack c. raise_none_by p specs actions new w slack c t.since (bursts_heard_by tap new actions) (record { time = is.time; acted = has; hears = capture }) is.keeps)

-- events are actions
pub taps_raise_none : TapsRaiseNone
taps_raise_none p specs events new w tap t is =
    subst (λ bs. HearsSince p.ttd t.since w.trace bs × ((slack : ℕ) (c : Classes) → alarms p slack c t.since (listening t.since) bs ≡ [])) (heard_happen tap new events)
    (taps_raise_none_by p specs (happen events) new w tap t (record {
      time = is.time;
      acted = acted_happen p specs events new w is.run;
      keeps = kept_happen new events is.keeps;
      here = is.here;
      running = is.running;
      others = is.others;
    }))
