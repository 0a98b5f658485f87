-- A stream that is written piece by piece.
use Rattle.std.proofs.Common.{◌≡◌, ◌≢◌, ◌∙◌, ap, refl, sym, subst, append_assoc, ℕ, List, [], ◌++◌, Option, Some, None}
use Rattle.std.proofs.lemmas.List.{append-nil}
use Rattle.std.specs.Prelude.{IfSome}
use Rattle.std.specs.Io.KnownBytes.{Appends}
use Rattle.law_model.specs.Trace.{Entry}
use Rattle.law_model.specs.World as model
use Rattle.law_model.specs.World.{World, new_world, new_faults, unless_fault}
use Rattle.pb_faults.specs.FirstFault.{first_fault}
use Rattle.law_runs.specs.Scenarios.{New, At}
use Rattle.law_streams.specs.Streams.{Streamed, stream_from}
use Rattle.law_streams.specs.Limits.{stream_behind}
use Rattle.pb_taps.specs.Faults.{RefusesNew, world_fault}
use Rattle.pb_taps.specs.declared.faults.NewFault as taps
use Rattle.pb_taps.specs.declared.faults.NewFault.TheVariants as new
use Rattle.pb_taps.specs.declared.faults.WorldFault.{WorldFault}
use Rattle.pb_taps.specs.declared.faults.WorldFault.TheVariants as fault
use Rattle.pb_scenario.specs.Faults.{model_fault}
use Rattle.pb_scenario.specs.Texts.{entries_text}
use Rattle.pb_scenario.specs.Repeats.{StreamView, unrolled}
use Rattle.pb_stream.specs.Streams.{GoesOn, IsStreaming, Tells, names_of, rest_of}
use Rattle.pb_stream.specs.declared.streams.Progress.TheVariants as progress
use Rattle.pb_stream.specs.declared.streams.Stream.{Stream}
use Rattle.pb_stream.proofs.Streaming.{lines-both}
use Rattle.pb_texts.specs.Faults.{new_line, refused_line}
use Rattle.pb_texts.proofs.Outcomes.{world_fault-of}
use Rattle.pb_cli.specs.Streaming.{Writes, WritesOn, WritesScenario, fault_text}
use Rattle.pb_cli.specs.declared.faults.Status.{Status}
use Rattle.pb_cli.specs.declared.faults.Status.TheVariants.{Done, Refused}

-- ---- pieces

pub appends_both : (old mid new : Option (List ℕ)) (s t : List ℕ) → Appends old mid s → Appends mid new t → Appends old new (s ++ t)
appends_both None mid new s t first more = tt
appends_both (Some xs) None new s t first more = absurd first
appends_both (Some xs) (Some ys) None s t first more = absurd more
appends_both (Some xs) (Some ys) (Some zs) s t first more = more ∙ ap (λ (l : List ℕ). l ++ t) first ∙ append_assoc xs s t

pub appends_nothing : (xs : Option (List ℕ)) → Appends xs xs []
appends_nothing None = tt
appends_nothing (Some xs) = sym (append-nil xs)

pub behind_nothing : (o : Option Streamed) → o ≡ stream_behind [] o
behind_nothing None = refl
behind_nothing (Some x) = refl

pub behind_both : (es fs : List Entry) (o : Option Streamed) → stream_behind es (stream_behind fs o) ≡ stream_behind (es ++ fs) o
behind_both es fs None = refl
behind_both es fs (Some x) = ap (λ (l : List Entry). Some (record x { entries = l })) (sym (append_assoc es fs x.entries))

-- what is written of a stream, behind some of its entries
writes_behind : (names : List (List ℕ)) (es : List Entry) (o p : Option Streamed) (old mid new : Option (List ℕ)) (status : Status)
    → o ≡ stream_behind es p → Appends old mid (entries_text names es) → Writes names p mid new status → Writes names o old new status
writes_behind names es o p old mid new status is front (stream, whole, text, told) =
    let last : List ℕ = fault_text stream.fault in
    let first : List ℕ = entries_text names es in
    let more : List ℕ = entries_text names stream.entries in
    let same : entries_text names (es ++ stream.entries) ++ last ≡ first ++ (more ++ last) =
    ap (λ (l : List ℕ). l ++ last) (lines-both names es stream.entries) ∙ append_assoc first more last in (
      record stream { entries = es ++ stream.entries },
      is ∙ ap (stream_behind es) whole,
      subst (Appends old new) (sym same) (appends_both old mid new first (more ++ last) front text),
      told,
    )

-- ---- a step

pub goes : (old new : Stream) (text : List ℕ) (before after : Option (List ℕ)) → GoesOn old new [] text → Appends before after text → WritesOn old new before after
goes old new text before after g written = record {
  entries = g.entries;
  text = subst (Appends before after) g.text written;
  rest = g.rest;
  ready = g.ready;
  names = g.names;
  until = g.until;
  later = g.later;
}

pub ended : (old new : Stream) (text : List ℕ) (before after : Option (List ℕ)) → Tells progress.Ended old new [] text → Appends before after text
    → Writes (names_of old) (rest_of old) before after Done
ended old new text before after (entries, is, rest) written =
    (record { entries = entries; fault = None }, rest, subst (Appends before after) (is ∙ sym (append-nil (entries_text (names_of old) entries))) written, refl)

pub some_map : {A : Type 0} (P Q : A → Type 0) (o : Option A) → ((a : A) → P a → Q a) → IfSome o P → IfSome o Q
some_map P Q None f p = p
some_map P Q (Some a) f p = f a p

pub stopped : (old new : Stream) (clock : ℕ) (f : WorldFault) (text line : List ℕ) (before mid after : Option (List ℕ))
    → Tells (progress.Refused clock f) old new [] text → Appends before mid text → line ≡ refused_line f clock → f ≢ fault.NoMemory
    → Appends mid after line → Writes (names_of old) (rest_of old) before after Refused
stopped old new clock f text line before mid after (entries, is, rest) written same told more =
    world_fault-of f (λ (n : WorldFault). Appends mid after (refused_line n clock) → Writes (names_of old) (rest_of old) before after Refused)
    (some_map _ _ (model_fault f) by rest) told (subst (Appends mid after) same more)
  where
    by : (g : model.Fault) → rest_of old ≡ Some (record { entries = entries; fault = Some (At clock g) })
        → Appends mid after (refused_line (world_fault g) clock) → Writes (names_of old) (rest_of old) before after Refused
    by g whole line = (
      record { entries = entries; fault = Some (At clock g) },
      whole,
      appends_both before mid after (entries_text (names_of old) entries) (refused_line (world_fault g) clock) (subst (Appends before mid) is written) line,
      refl,
    )

-- ---- a whole stream

-- some of it is written, and the stream goes on
pub record Streams (names : List (List ℕ)) (whole : Option Streamed) (stream : Stream) (before now : Option (List ℕ)) : Type 0 where
  pub done : List Entry
  pub text : Appends before now (entries_text names done)
  pub rest : whole ≡ stream_behind done (rest_of stream)
  pub ready : IsStreaming stream
  pub named : names_of stream ≡ names

pub begins : (names : List (List ℕ)) (whole : Option Streamed) (stream : Stream) (before : Option (List ℕ)) → rest_of stream ≡ whole → IsStreaming stream
    → names_of stream ≡ names → Streams names whole stream before before
begins names whole stream before rest ready same = record {
  done = [];
  text = appends_nothing before;
  rest = sym rest ∙ behind_nothing (rest_of stream);
  ready = ready;
  named = same;
}

pub goes_on : (names : List (List ℕ)) (whole : Option Streamed) (stream next : Stream) (before mid after : Option (List ℕ))
    → Streams names whole stream before mid → WritesOn stream next mid after → Streams names whole next before after
goes_on names whole stream next before mid after i w = record {
  done = i.done ++ w.entries;
  text = subst (Appends before after) (sym (lines-both names i.done w.entries)) (appends_both before mid after (entries_text names i.done) (entries_text names w.entries) i.text
      (subst (λ (ns : List (List ℕ)). Appends mid after (entries_text ns w.entries)) i.named w.text));
  rest = i.rest ∙ ap (stream_behind i.done) w.rest ∙ behind_both i.done w.entries (rest_of next);
  ready = w.ready;
  named = w.names ∙ i.named;
}

pub ends : (names : List (List ℕ)) (whole : Option Streamed) (stream : Stream) (before mid after : Option (List ℕ)) (status : Status)
    → Streams names whole stream before mid → Writes (names_of stream) (rest_of stream) mid after status → Writes names whole before after status
ends names whole stream before mid after status i w =
    writes_behind names i.done whole (rest_of stream) before mid after status i.rest i.text
    (subst (λ (ns : List (List ℕ)). Writes ns (rest_of stream) mid after status) i.named w)

-- there is no world to begin with, whatever the limit of entries
pub no_world : (s : StreamView) (until : ℕ) (f : taps.NewFault) (line : List ℕ) (before after : Option (List ℕ))
    → RefusesNew (new_world s.once.scenario.params s.once.scenario.taps) f → f ≢ new.NoMemory → line ≡ new_line f → Appends before after line
    → WritesScenario s until before after Refused
no_world s until f line before after refuses told same written =
    by (first_fault (new_faults s.once.scenario.params s.once.scenario.taps)) _ _ refuses
  where
    by : (o : Option model.NewFault) (w v : World) → RefusesNew (unless_fault o w) f → Writes s.once.names (stream_from (unrolled until s) (unless_fault o v)) before after Refused
    by None w v is = absurd (told is)
    by (Some g) w v is = (
      record { entries = []; fault = Some (New g) },
      refl,
      subst (Appends before after) (same ∙ ap (λ (n : taps.NewFault). new_line n) is) written,
      refl,
    )
