-- The theorem in the words of a world's readers.
use Rattle.std.proofs.Common.{◌≡◌, ℕ, ◌+◌, ◌≤◌, Bool, true, false, ◌&&◌, refl, sym, ap, ◌∙◌, subst}
use Rattle.pb_timers.specs.Timers.{Params, tto}
use Rattle.law_turn.specs.Phases.{may_initiate, Offline}
use Rattle.law_model.specs.Medium.{Tap}
use Rattle.law_model.specs.World.{World}
use Rattle.law_runs.specs.Activity.{is_silent}
use Rattle.law_runs.specs.Headline.{MayInitiate, HasAtMostOneHolder}
use Rattle.law_token.specs.Invariant.{Settled}
use Rattle.law_token.specs.Promises.{StationMayInitiate, HasOneToken, OneToken, NoneInSilence}
use Rattle.law_token.proofs.whole.Keeping.{fits_valid}
use Rattle.law_token.proofs.quiet.Bound.{silence_at_speakers, silence_at_tap}
use Rattle.law_token.proofs.whole.JoinedRuns.{runs_same, settled_after}
use Rattle.law_token.proofs.whole.Stays.{new_params}
use Rattle.law_token.proofs.whole.Induction.{theorem_of_delay}

-- one that may initiate runs, as one that is stopped is offline
runs_if : (b : Bool) (t : Tap) → (b ≡ false → t.station.phase ≡ Offline) → may_initiate t.station.phase ≡ true → (b && may_initiate t.station.phase) ≡ true
runs_if true t off may = may
runs_if false t off may = absurd (let w : false ≡ true = sym (ap may_initiate (off refl)) ∙ may in cc)

initiates : (w : World) (tap : ℕ) → Settled w → StationMayInitiate w tap → MayInitiate w tap
initiates w tap s may = (may.0, may.1, runs_if may.0.running may.0 (s.stays tap may.0 may.1).stopped may.2)

pub in_readers_words : (w : World) → Settled w → HasAtMostOneHolder w → HasOneToken w
in_readers_words w s one = record {
  at_most_one = λ i j a b. one.at_most_one i j (initiates w i s a) (initiates w j s b);
  is_named = λ i a. one.is_named i (initiates w i s a);
  legal = one.legal;
}

pub one_token : OneToken
one_token p specs events new w valid run none =
    let fits = fits_valid p valid in in_readers_words w (settled_after p specs events new w fits.highest run) (theorem_of_delay p specs events new w fits run none)

-- ---- silence

pub none_in_silence : NoneInSilence
none_in_silence p specs events new w valid run none =
    let fits = fits_valid p valid in
    let params : w.params ≡ p = (runs_same events new w run.runs).params ∙ new_params p specs new run.made in
    record {
      at_the_tap = λ tap m u t is since lt le silent.
          subst (λ (q : Params). u ≤ m + (tto q t.spec.address + q.lag)) (sym params)
          (silence_at_tap p specs events new w tap m u t fits run none is since lt le (subst (λ (q : Params). is_silent q.ttd tap w.trace m u ≡ true) params silent));
      at_speakers = λ tap m u t is since lt le silent.
          subst (λ (q : Params). u ≤ m + (tto q t.spec.address + q.lag + q.ttd)) (sym params)
          (silence_at_speakers p specs events new w tap m u t fits run none is since lt le silent);
    }
