-- A capture that is written piece by piece.
use Rattle.std.proofs.Common.{◌≡◌, ◌≢◌, ◌∙◌, ap, refl, sym, arith, ℕ, List, [], ◌++◌, Option, Some, None, Result}
use Rattle.std.proofs.lemmas.Result.{IfOk-weaker}
use Rattle.std.specs.Prelude.{IfOk}
use Rattle.std.specs.Io.KnownBytes.{Appends}
use Rattle.law_model.specs.Trace.{Entry}
use Rattle.law_model.specs.World as model
use Rattle.law_model.specs.World.{World, new_world, new_faults, unless_fault}
use Rattle.pb_faults.specs.FirstFault.{first_fault}
use Rattle.law_runs.specs.Scenarios.{RunFault, New, At}
use Rattle.law_streams.specs.Streams.{Streamed, stream_from}
use Rattle.law_streams.specs.Limits.{stream_behind}
use Rattle.pb_taps.specs.Faults.{RefusesNew, world_fault}
use Rattle.pb_taps.specs.declared.faults.NewFault as taps
use Rattle.pb_taps.specs.declared.faults.NewFault.TheVariants as new
use Rattle.pb_taps.specs.declared.faults.WorldFault.{WorldFault}
use Rattle.pb_taps.specs.declared.faults.WorldFault.TheVariants as fault
use Rattle.pb_scenario.specs.Faults.{model_fault}
use Rattle.pb_scenario.specs.Repeats.{StreamView, unrolled}
use Rattle.pb_scenario.specs.Walks.{WalkView}
use Rattle.pb_stream.specs.Streams.{HasPlayed, IsStreaming, LetsGo, StillHas, kept_of, past_in, rest_of}
use Rattle.pb_stream.specs.declared.streams.Progress.TheVariants as progress
use Rattle.pb_stream.specs.declared.streams.Stream.{Stream}
use Rattle.pb_texts.specs.Faults.{new_line, refused_line}
use Rattle.pb_texts.proofs.Outcomes.{world_fault-of}
use Rattle.pb_cli.proofs.Written.{appends_both, appends_nothing, behind_both, behind_nothing, some_map}
use Rattle.pb_cli.specs.Capturing.{Captures, CapturesOn, CapturesRest, CapturesScenario, Refuses, IsCaptureOf}
use Rattle.pb_cli.specs.Settling.{IsOfRun}
use Rattle.pb_cli.specs.declared.faults.CliFault.{CliFault}
use Rattle.pb_cli.specs.declared.faults.Status.TheVariants.{Done, Refused}
use Rattle.pb_cli.specs.declared.settled.Settled.{Settled}

-- ---- an instant

pub keeps_all : (old next : Stream) → StillHas old next → CapturesOn old next
keeps_all old next still = record {
  gone = [];
  rest = still.rest ∙ behind_nothing (rest_of next);
  ready = still.ready;
  until = still.until;
  later = still.later;
}

pub lets_go : (old mid next : Stream) → StillHas old mid → LetsGo (past_in mid) mid next → CapturesOn old next
lets_go old mid next still lets =
    let clock = ap (λ (w : WalkView). w.clock) lets.walk in
    record {
      gone = past_in mid;
      rest = still.rest ∙ lets.rest;
      ready = lets.ready;
      until = ap (λ (w : WalkView). w.until) lets.walk ∙ still.until;
      later = omega (arith, clock, still.later);
    }

pub at_end : (old next : Stream) (ended : Settled) → HasPlayed progress.Ended old next → ended.status ≡ Done → ended.line.items ≡ [] → CapturesRest old ended
at_end old next ended rest status line = (record { entries = kept_of next; fault = None }, rest, tt, (status, line))

pub at_refusal : (old next : Stream) (clock : ℕ) (f : WorldFault) (ended : Settled) → HasPlayed (progress.Refused clock f) old next → f ≢ fault.NoMemory
    → ended.status ≡ Refused → ended.line.items ≡ refused_line f clock → CapturesRest old ended
at_refusal old next clock f ended rest told status line =
    world_fault-of f (λ (n : WorldFault). ended.line.items ≡ refused_line n clock → CapturesRest old ended) (some_map _ _ (model_fault f) by rest) told line
  where
    by : (g : model.Fault) → rest_of old ≡ Some (record { entries = kept_of next; fault = Some (At clock g) })
        → ended.line.items ≡ refused_line (world_fault g) clock → CapturesRest old ended
    by g whole is = (record { entries = kept_of next; fault = Some (At clock g) }, whole, tt, (status, is))

-- ---- a whole run

-- some lines are written, and the stream goes on
pub record Goes (whole : Option Streamed) (stream : Stream) (before now : Option (List ℕ)) : Type 0 where
  pub gone : List Entry
  pub lines : List ℕ
  pub bytes : Appends before now lines
  pub rest : whole ≡ stream_behind gone (rest_of stream)
  pub ready : IsStreaming stream

pub begins : (whole : Option Streamed) (stream : Stream) (before : Option (List ℕ)) → rest_of stream ≡ whole → IsStreaming stream → Goes whole stream before before
begins whole stream before rest ready = record {
  gone = [];
  lines = [];
  bytes = appends_nothing before;
  rest = sym rest ∙ behind_nothing (rest_of stream);
  ready = ready;
}

pub goes_on : (whole : Option Streamed) (stream next : Stream) (text : List ℕ) (before mid after : Option (List ℕ)) → Goes whole stream before mid
    → CapturesOn stream next → Appends mid after text → Goes whole next before after
goes_on whole stream next text before mid after i c written = record {
  gone = i.gone ++ c.gone;
  lines = i.lines ++ text;
  bytes = appends_both before mid after i.lines text i.bytes written;
  rest = i.rest ∙ ap (stream_behind i.gone) c.rest ∙ behind_both i.gone c.gone (rest_of next);
  ready = c.ready;
}

stands : (f : Option RunFault) (lines : List ℕ) → IsOfRun f → IsCaptureOf f lines
stands None lines of_run = tt
stands (Some (At clock f)) lines of_run = tt
stands (Some (New f)) lines of_run = absurd of_run

pub ends : (whole : Option Streamed) (stream : Stream) (text : List ℕ) (before mid after : Option (List ℕ)) (ended : Settled) → Goes whole stream before mid
    → CapturesRest stream ended → Appends mid after text → Captures whole before after ended
ends whole stream text before mid after ended i (rest, is, of_run, says) written = (
  record rest { entries = i.gone ++ rest.entries },
  i.rest ∙ ap (stream_behind i.gone) is,
  (i.lines ++ text, appends_both before mid after i.lines text i.bytes written, stands rest.fault (i.lines ++ text) of_run),
  says,
)

-- there is no world to begin with
no_world : (s : StreamView) (f : taps.NewFault) (line : List ℕ) (before after : Option (List ℕ)) (ended : Settled)
    → RefusesNew (new_world s.once.scenario.params s.once.scenario.taps) f → f ≢ new.NoMemory → line ≡ new_line f → Refuses line before after ended
    → CapturesScenario s before after ended
no_world s f line before after ended refuses told same (written, status, nothing) =
    by (first_fault (new_faults s.once.scenario.params s.once.scenario.taps)) _ _ refuses
  where
    by : (o : Option model.NewFault) (w v : World) → RefusesNew (unless_fault o w) f → Captures (stream_from (unrolled s.until s) (unless_fault o v)) before after ended
    by None w v is = absurd (told is)
    by (Some g) w v is = (
      record { entries = []; fault = Some (New g) },
      refl,
      (line, written, same ∙ ap (λ (n : taps.NewFault). new_line n) is),
      (status, nothing),
    )

pub refuses : (s : StreamView) (f : taps.NewFault) (line : List ℕ) (before after : Option (List ℕ)) (r : Result Settled CliFault)
    → RefusesNew (new_world s.once.scenario.params s.once.scenario.taps) f → f ≢ new.NoMemory → line ≡ new_line f → IfOk r (Refuses line before after)
    → IfOk r (CapturesScenario s before after)
refuses s f line before after r is told same written =
    IfOk-weaker r (Refuses line before after) (CapturesScenario s before after) (λ ended w. no_world s f line before after ended is told same w) written
