-- A run that is drawn at its end: its entries are in order, and how it ends.
use Rattle.std.proofs.Common.{◌≡◌, ◌≢◌, ◌∙◌, ◌+◌, ap, refl, sym, subst, ℕ, List, [], Option, Some, None, Result, Ok, Err}
use Rattle.std.specs.Io.KnownBytes.{Appends}
use Rattle.law_model.specs.World as model
use Rattle.law_model.specs.World.{World, Event, NewFault, Fault, new_world, new_world_within, new_faults, unless_fault}
use Rattle.law_model.specs.Step.{world_after}
use Rattle.pb_faults.specs.FirstFault.{first_fault}
use Rattle.law_runs.specs.Judging.{Stands}
use Rattle.law_runs.specs.Runs.{run}
use Rattle.law_runs.specs.Scenarios.{RunFault, Scenario, New, At, plan_of}
use Rattle.law_runs.proofs.Ordered.{stands-new, stands-step}
use Rattle.law_streams.specs.Streams.{Streamed, stream_from, stream_limit, stream_within, streamed_of, telling_bus}
use Rattle.pb_taps.specs.Faults.{RefusesNew, world_fault}
use Rattle.pb_taps.specs.declared.faults.NewFault as taps
use Rattle.pb_taps.specs.declared.faults.NewFault.TheVariants as new
use Rattle.pb_taps.specs.declared.faults.WorldFault.{WorldFault}
use Rattle.pb_taps.specs.declared.faults.WorldFault.TheVariants as fault
use Rattle.pb_scenario.specs.Faults.{model_fault}
use Rattle.pb_scenario.specs.Repeats.{StreamView, unrolled}
use Rattle.pb_stream.specs.Streams.{HasPlayed, IsStreaming, StillHas, kept_of, rest_of}
use Rattle.pb_stream.specs.declared.streams.Progress.TheVariants as progress
use Rattle.pb_stream.specs.declared.streams.Stream.{Stream}
use Rattle.pb_texts.specs.Faults.{new_line, refused_line}
use Rattle.pb_texts.proofs.Outcomes.{world_fault-of}
use Rattle.pb_export.specs.Svg.{stream_svg_text}
use Rattle.pb_export.specs.declared.options.Window.{Window}
use Rattle.pb_cli.proofs.RunKeeps.{Ends, Keeps, run-keeps}
use Rattle.pb_cli.proofs.Written.{some_map}
use Rattle.pb_cli.specs.Settling.{IsOfRun, Says}
use Rattle.pb_cli.specs.StreamDrawing.{AreInOrder, DrawsRun, DrawsScenario, HasEnded, drawn_of, moment_of, up_to}
use Rattle.pb_cli.specs.declared.faults.Status.TheVariants.{Refused}
use Rattle.pb_cli.specs.declared.settled.Settled.{Settled}
use Rattle.pb_cli.specs.declared.stream_drawing.Ending.{Ending}

-- ---- the order of entries

keeps-order : Keeps Stands
keeps-order w next e reply stands ok = subst Stands (ap (world_after w) ok) (stands-step w e stands)

end-in-order : (o : Option (Result (World × List Event) (ℕ × (World × Fault)))) → Ends Stands o → AreInOrder (streamed_of o)
end-in-order None is = tt
end-in-order (Some (Ok end)) is = is
end-in-order (Some (Err stop)) is = is

from-in-order : (s : Scenario) (r : Result World NewFault) → ((w : World) → r ≡ Ok w → Stands w) → AreInOrder (stream_from s r)
from-in-order s (Ok w) new =
    let p = plan_of s.steps s.until in
    end-in-order (run (s.until + 1) telling_bus p 0 w) (run-keeps Stands keeps-order (s.until + 1) p 0 w (new w refl))
from-in-order s (Err fault) new = tt

pub in-order : (s : Scenario) (limit : ℕ) → AreInOrder (stream_within limit s)
in-order s limit = from-in-order s (new_world_within limit s.params s.taps) (λ w made. stands-new s.params s.taps w (limit, made))

-- ---- an instant

pub at_refusal : (old next : Stream) (clock : ℕ) (f : WorldFault) (ended : Settled) → HasPlayed (progress.Refused clock f) old next → f ≢ fault.NoMemory
    → ended.status ≡ Refused → ended.line.items ≡ refused_line f clock → HasEnded old next (record { settled = ended; refused_at = Some clock })
at_refusal old next clock f ended rest told status line =
    world_fault-of f (λ (n : WorldFault). ended.line.items ≡ refused_line n clock → HasEnded old next (record { settled = ended; refused_at = Some clock }))
    (some_map _ _ (model_fault f) by rest) told line
  where
    by : (g : model.Fault) → rest_of old ≡ Some (record { entries = kept_of next; fault = Some (At clock g) })
        → ended.line.items ≡ refused_line (world_fault g) clock → HasEnded old next (record { settled = ended; refused_at = Some clock })
    by g whole is = (Some (At clock g), whole, tt, (status, is), refl)

-- ---- a run

-- some instants are played
pub record Goes (whole : Option Streamed) (stream : Stream) : Type 0 where
  pub rest : whole ≡ rest_of stream
  pub ready : IsStreaming stream

pub goes_on : (whole : Option Streamed) (stream next : Stream) → Goes whole stream → StillHas stream next → Goes whole next
goes_on whole stream next i still = record { rest = i.rest ∙ still.rest; ready = still.ready }

pub ends : (old stream next : Stream) (ended : Ending) → Goes (rest_of old) stream → HasEnded stream next ended → HasEnded old next ended
ends old stream next ended i (fault, rest, of_run, says, moment) = (fault, i.rest ∙ rest, of_run, says, moment)

pub draws : (w : Window) (s : StreamView) (old next : Stream) (before after : Option (List ℕ)) (ended : Ending) → HasEnded old next ended
    → Appends before after (stream_svg_text (up_to w ended.refused_at) s (kept_of next)) → DrawsRun w s (rest_of old) before after ended.settled
draws w s old next before after ended (fault, rest, of_run, says, moment) written = (
  record { entries = kept_of next; fault = fault },
  rest,
  subst (λ (m : Option ℕ). Appends before after (stream_svg_text (up_to w m) s (kept_of next))) moment written,
  of_run,
  says,
)

-- ---- a scenario

drawn-same : (w : Window) (s : StreamView) (stream : Streamed) (fault : Option RunFault) → IsOfRun fault
    → stream_svg_text (up_to w (moment_of fault)) s stream.entries ≡ drawn_of w s stream.entries fault
drawn-same w s stream None of_run = refl
drawn-same w s stream (Some (At clock f)) of_run = refl
drawn-same w s stream (Some (New f)) of_run = absurd of_run

pub whole_run : (w : Window) (s : StreamView) (o : Option Streamed) (before after : Option (List ℕ)) (ended : Settled)
    → o ≡ stream_within stream_limit (unrolled s.until s) → DrawsRun w s o before after ended → DrawsScenario w s before after ended
whole_run w s o before after ended same (stream, is, written, of_run, says) = (
  stream,
  sym same ∙ is,
  subst (Appends before after) (drawn-same w s stream stream.fault of_run) written,
  says,
)

pub no_world : (w : Window) (s : StreamView) (f : taps.NewFault) (line : List ℕ) (before after : Option (List ℕ)) (ended : Settled)
    → RefusesNew (new_world s.once.scenario.params s.once.scenario.taps) f → f ≢ new.NoMemory → line ≡ new_line f → Appends before after line
    → ended.status ≡ Refused → ended.line.items ≡ [] → DrawsScenario w s before after ended
no_world w s f line before after ended refuses told same written status nothing =
    by (first_fault (new_faults s.once.scenario.params s.once.scenario.taps)) _ _ refuses
  where
    by : (o : Option model.NewFault) (u v : World) → RefusesNew (unless_fault o u) f
        → (stream : Streamed) × (stream_from (unrolled s.until s) (unless_fault o v) ≡ Some stream) × Appends before after (drawn_of w s stream.entries stream.fault) × Says ended stream.fault
    by None u v is = absurd (told is)
    by (Some g) u v is = (
      record { entries = []; fault = Some (New g) },
      refl,
      subst (Appends before after) (same ∙ ap (λ (n : taps.NewFault). new_line n) is) written,
      (status, nothing),
    )
