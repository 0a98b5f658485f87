-- What the audit of a stream writes.
use Rattle.std.specs.Prelude.{◌≡◌, ◌≢◌, ℕ, List, [], ◌++◌, Option, Some, None, Result, Ok, Err, is_some, unwrap_or, ◌||◌}
use Rattle.std.specs.Io.KnownBytes.{Appends}
use Rattle.law_runs.specs.Premises.{Broken}
use Rattle.law_runs.specs.Scenarios.{RunFault}
use Rattle.law_streams.specs.Audits.{Audited, audited_within}
use Rattle.law_streams.specs.Streams.{stream_limit}
use Rattle.pb_scenario.specs.Fields.{Fault}
use Rattle.pb_scenario.specs.Repeats.{StreamView, unrolled}
use Rattle.pb_stream.specs.Audits.{GoesOn, IsAuditOf, premise_of}
use Rattle.pb_stream.specs.declared.audits.AuditStream.{AuditStream}
use Rattle.pb_stream.specs.declared.streams.Progress.{Progress}
use Rattle.pb_stream.specs.declared.streams.Progress.TheVariants as progress
use Rattle.pb_texts.specs.Audits.{audit_text, legality_line, premise_line}
use Rattle.pb_taps.specs.declared.faults.WorldFault.TheVariants as fault
use Rattle.pb_texts.specs.Faults.{refused_line, run_line, scenario_line}
use Rattle.pb_world.specs.declared.findings.Audit.{Audit}
use Rattle.pb_cli.specs.Statuses.{status_of}
use Rattle.pb_cli.specs.declared.faults.Status.{Status}
use Rattle.pb_cli.specs.declared.faults.Status.TheVariants.{Refused}

-- ---- the whole text

-- The lines of what is found: that of the first premise that broke, and behind it that of the first illegal record. As long
-- as no premise has broken, no record is illegal: that is the token theorem.
abbrev pub found_text : Option Broken → Option ℕ → List ℕ
found_text None illegal = []
found_text (Some b) None = premise_line (Some b)
found_text (Some b) (Some place) = premise_line (Some b) ++ legality_line (Some place)

-- at the end the lines of an audit; where an event is refused, those of what was found, and the line of the fault
abbrev pub ended_text : Option Broken → Option ℕ → Option RunFault → List ℕ
ended_text premise illegal None = audit_text premise illegal
ended_text premise illegal (Some fault) = found_text premise illegal ++ run_line fault

-- an audit is written whole; an illegal record or a fault is a refusal
abbrev pub WritesAudited : Option Audited → (before after : Option (List ℕ)) → Status → Type 0
WritesAudited o before after status =
    (a : Audited) × (o ≡ Some a) × Appends before after (ended_text a.premise a.illegal a.fault) × (status ≡ status_of (is_some a.illegal || is_some a.fault))

-- the audit of a scenario up to a moment, within 10^12 entries
abbrev pub WritesAudit : StreamView → (until : ℕ) → (before after : Option (List ℕ)) → Status → Type 0
WritesAudit s until before after status = WritesAudited (audited_within stream_limit (unrolled until s)) before after status

-- that of a file's scenario, up to a moment or to its own end; or the line of the file's fault
abbrev pub WritesAuditFile : Result StreamView (Option Fault) → Option ℕ → (before after : Option (List ℕ)) → Status → Type 0
WritesAuditFile (Ok s) until before after status = WritesAudit s (unwrap_or until s.until) before after status
WritesAuditFile (Err fault) until before after status = Appends before after (scenario_line fault) × (status ≡ Refused)

-- ---- its pieces

abbrev pub text_of : Audit → List ℕ
text_of found = found_text (premise_of found) found.illegal

-- the lines of what is found, where something was found before
abbrev pub news_after : (premise : Option Broken) (illegal : Option ℕ) → Option Broken → Option ℕ → List ℕ
news_after None illegal now_premise now_illegal = found_text now_premise now_illegal
news_after (Some b) None now_premise None = []
news_after (Some b) None now_premise (Some place) = legality_line (Some place)
news_after (Some b) (Some place) now_premise now_illegal = []

abbrev pub news_text : (before now : Audit) → List ℕ
news_text before now = news_after (premise_of before) before.illegal (premise_of now) now.illegal

-- the lines of an audit that are not written yet when it ends
abbrev pub left_after : Option Broken → Option ℕ → List ℕ
left_after None illegal = audit_text None illegal
left_after (Some b) None = legality_line None
left_after (Some b) (Some place) = []

abbrev pub left_text : Audit → List ℕ
left_text found = left_after (premise_of found) found.illegal

-- what is appended behind the lines of what was found: at the end those that are left, or that of the fault
abbrev pub EndsWith : Progress → Audit → (before after : List ℕ) → Type 0
EndsWith progress.Goes found before after = after ≡ before
EndsWith progress.Ended found before after = after ≡ before ++ left_text found
EndsWith (progress.Refused clock f) found before after = (after ≡ before ++ refused_line f clock) × (f ≢ fault.NoMemory)

-- an instant is played, and from a start on, this is written
abbrev pub StepsTo : Progress → Option Audited → (old new : AuditStream) → (start after : Option (List ℕ)) → Type 0
StepsTo progress.Goes whole old new start after = GoesOn whole old new × Appends start after (text_of new.found)
StepsTo progress.Ended whole old new start after =
    (a : Audited) × (whole ≡ Some a) × Appends start after (ended_text a.premise a.illegal a.fault) × (is_some new.found.illegal ≡ (is_some a.illegal || is_some a.fault))
StepsTo (progress.Refused clock f) whole old new start after = WritesAudited whole start after Refused

-- whatever run has led to it, where the lines of what was found are written
abbrev pub StepsOn : Progress → (old new : AuditStream) → (before after : Option (List ℕ)) → Type 0
StepsOn p old new before after = (whole : Option Audited) (start : Option (List ℕ)) → IsAuditOf whole old → Appends start before (text_of old.found) → StepsTo p whole old new start after
