-- The audit of a stream that is written as it is found.
use Rattle.std.proofs.Common.{◌≡◌, ◌≢◌, ◌∙◌, ap, refl, sym, subst, append_assoc, ℕ, List, ◌++◌, Option, Some, None}
use Rattle.std.proofs.lemmas.List.{append-nil}
use Rattle.std.proofs.Math.Bool.{or-false, or-true}
use Rattle.std.specs.Prelude.{is_some}
use Rattle.std.specs.Io.KnownBytes.{Appends}
use Rattle.pb_faults.specs.FirstFault.{first_fault}
use Rattle.law_model.specs.World as model
use Rattle.law_model.specs.World.{World, new_world, new_faults, unless_fault}
use Rattle.law_runs.specs.Premises.{Broken}
use Rattle.law_runs.specs.Scenarios.{New, At}
use Rattle.law_streams.specs.Audits.{audited_from}
use Rattle.pb_taps.specs.Faults.{RefusesNew, world_fault}
use Rattle.pb_taps.specs.declared.faults.NewFault as taps
use Rattle.pb_taps.specs.declared.faults.NewFault.TheVariants as new
use Rattle.pb_taps.specs.declared.faults.WorldFault.{WorldFault}
use Rattle.pb_taps.specs.declared.faults.WorldFault.TheVariants as fault
use Rattle.pb_scenario.specs.Faults.{model_fault}
use Rattle.pb_scenario.specs.Repeats.{StreamView, unrolled}
use Rattle.pb_stream.specs.Audits.{FindsOf, StaysFound, found_with, premise_of}
use Rattle.pb_stream.specs.declared.audits.AuditStream.{AuditStream}
use Rattle.pb_stream.specs.declared.streams.Progress.{Progress}
use Rattle.pb_stream.specs.declared.streams.Progress.TheVariants as progress
use Rattle.pb_texts.specs.Audits.{audit_text, legality_line, premise_line}
use Rattle.pb_texts.specs.Faults.{new_line, refused_line}
use Rattle.pb_texts.proofs.Outcomes.{world_fault-of}
use Rattle.pb_world.specs.declared.findings.Audit.{Audit}
use Rattle.pb_cli.specs.Statuses.{status_of}
use Rattle.pb_cli.specs.StreamAudits.{EndsWith, StepsOn, WritesAudit, WritesAudited, found_text, left_after, left_text, news_after, news_text, text_of}
use Rattle.pb_cli.specs.declared.faults.Status.TheVariants.{Refused}
use Rattle.pb_cli.proofs.Written.{appends_both, some_map}

-- ---- texts

-- what was found, and what is found since
pub news_follow : (before now : Audit) → StaysFound before now → text_of now ≡ text_of before ++ news_text before now
news_follow before now stays = by (premise_of before) before.illegal refl refl
  where
    by : (p : Option Broken) (i : Option ℕ) → premise_of before ≡ p → before.illegal ≡ i
        → found_text (premise_of now) now.illegal ≡ found_text p i ++ news_after p i (premise_of now) now.illegal
    by None i premise illegal = refl
    by (Some b) None premise illegal =
        let more : (i : Option ℕ) → found_text (Some b) i ≡ premise_line (Some b) ++ news_after (Some b) None (premise_of now) i = elim [ None ↦ sym (append-nil (premise_line (Some b))) | Some place ↦ refl ] in
        ap (λ q. found_text q now.illegal) (stays.premise b premise) ∙ more now.illegal
    by (Some b) (Some place) premise illegal =
        ap (λ q. found_text q now.illegal) (stays.premise b premise) ∙ ap (found_text (Some b)) (stays.illegal place illegal)
        ∙ sym (append-nil (found_text (Some b) (Some place)))

-- what was found, and what is left at the end
pub left_follows : (found : Audit) → audit_text (premise_of found) found.illegal ≡ text_of found ++ left_text found
left_follows found = by (premise_of found) found.illegal
  where
    by : (p : Option Broken) (i : Option ℕ) → audit_text p i ≡ found_text p i ++ left_after p i
    by None i = refl
    by (Some b) None = refl
    by (Some b) (Some place) = sym (append-nil (premise_line (Some b) ++ legality_line (Some place)))

-- ---- a step

goes : (old new : AuditStream) (text : List ℕ) (before after : Option (List ℕ)) → FindsOf progress.Goes old new → text ≡ news_text old.found new.found → Appends before after text
    → StepsOn progress.Goes old new before after
goes old new text before after finds is written whole start audit told =
    let (on, stays) = finds whole audit in
    (on, subst (Appends start after) (ap (λ (l : List ℕ). text_of old.found ++ l) is ∙ sym (news_follow old.found new.found stays)) (appends_both start before after (text_of old.found) text told written))

ended : (old new : AuditStream) (text : List ℕ) (before after : Option (List ℕ)) → FindsOf progress.Ended old new
    → text ≡ news_text old.found new.found ++ left_text new.found → Appends before after text → StepsOn progress.Ended old new before after
ended old new text before after finds is written whole start audit told =
    let (end, stays) = finds whole audit in
    let all : text_of old.found ++ text ≡ audit_text (premise_of new.found) new.found.illegal =
    ap (λ (l : List ℕ). text_of old.found ++ l) is ∙ sym (append_assoc (text_of old.found) (news_text old.found new.found) (left_text new.found))
    ∙ ap (λ (l : List ℕ). l ++ left_text new.found) (sym (news_follow old.found new.found stays)) ∙ sym (left_follows new.found) in (
      found_with new.found None,
      end,
      subst (Appends start after) all (appends_both start before after (text_of old.found) text told written),
      sym (or-false (is_some new.found.illegal)),
    )

stopped : (old new : AuditStream) (clock : ℕ) (f : WorldFault) (text line : List ℕ) (before after : Option (List ℕ)) → FindsOf (progress.Refused clock f) old new
    → text ≡ news_text old.found new.found ++ line → line ≡ refused_line f clock → f ≢ fault.NoMemory → Appends before after text
    → StepsOn (progress.Refused clock f) old new before after
stopped old new clock f text line before after finds is same told written whole start audit so_far =
    world_fault-of f (λ (n : WorldFault). line ≡ refused_line n clock → WritesAudited whole start after Refused)
    (some_map _ _ (model_fault f) by (finds whole audit)) told same
  where
    by : (g : model.Fault) → (whole ≡ Some (found_with new.found (Some (At clock g)))) × StaysFound old.found new.found
        → line ≡ refused_line (world_fault g) clock → WritesAudited whole start after Refused
    by g (end, stays) same =
        let all : text_of old.found ++ text ≡ text_of new.found ++ refused_line (world_fault g) clock =
        ap (λ (l : List ℕ). text_of old.found ++ l) is ∙ sym (append_assoc (text_of old.found) (news_text old.found new.found) line)
        ∙ ap (λ (l : List ℕ). l ++ line) (sym (news_follow old.found new.found stays)) ∙ ap (λ (l : List ℕ). text_of new.found ++ l) same in (
          found_with new.found (Some (At clock g)),
          end,
          subst (Appends start after) all (appends_both start before after (text_of old.found) text so_far written),
          sym (ap status_of (or-true (is_some new.found.illegal))),
        )

pub steps : (p : Progress) (old new : AuditStream) (news text : List ℕ) (before after : Option (List ℕ)) → FindsOf p old new → news ≡ news_text old.found new.found
    → EndsWith p new.found news text → Appends before after text → StepsOn p old new before after
steps progress.Goes old new news text before after finds is ends written = goes old new text before after finds (ends ∙ is) written
steps progress.Ended old new news text before after finds is ends written =
    ended old new text before after finds (ends ∙ ap (λ (l : List ℕ). l ++ left_text new.found) is) written
steps (progress.Refused clock f) old new news text before after finds is (same, told) written =
    stopped old new clock f text (refused_line f clock) before after finds (same ∙ ap (λ (l : List ℕ). l ++ refused_line f clock) is) refl told written

-- ---- a whole audit

-- there is no world to begin with, whatever the limit of entries
pub no_world : (s : StreamView) (until : ℕ) (f : taps.NewFault) (line : List ℕ) (before after : Option (List ℕ))
    → RefusesNew (new_world s.once.scenario.params s.once.scenario.taps) f → f ≢ new.NoMemory → line ≡ new_line f → Appends before after line
    → WritesAudit s until before after Refused
no_world s until f line before after refuses told same written =
    by (first_fault (new_faults s.once.scenario.params s.once.scenario.taps)) _ _ refuses
  where
    by : (o : Option model.NewFault) (w v : World) → RefusesNew (unless_fault o w) f → WritesAudited (audited_from (unrolled until s) (unless_fault o v)) before after Refused
    by None w v is = absurd (told is)
    by (Some g) w v is = (
      record { premise = None; illegal = None; fault = Some (New g) },
      refl,
      subst (Appends before after) (same ∙ ap (λ (n : taps.NewFault). new_line n) is) written,
      refl,
    )
