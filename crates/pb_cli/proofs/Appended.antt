-- An export that is written entry by entry.
use Rattle.std.proofs.Common.{◌≡◌, ◌≢◌, ◌∙◌, ap, refl, sym, subst, arith, append_assoc, ℕ, ◌≤◌, Bool, true, false, length, map, List, [], ◌++◌, Option, Some, None}
use Rattle.std.specs.Prelude.{◌&&◌, drop, if◌then◌else◌, nat_le, take}
use Rattle.std.proofs.lemmas.Bool.{and_parts}
use Rattle.std.proofs.lemmas.List.{append-nil, length-map, length-take-le}
use Rattle.std.specs.Io.KnownBytes.{Appends}
use Rattle.law_model.specs.Trace.{Entry}
use Rattle.law_model.specs.World as model
use Rattle.law_model.specs.World.{World, new_world, new_faults, unless_fault}
use Rattle.pb_faults.specs.FirstFault.{first_fault}
use Rattle.law_runs.specs.Scenarios.{RunFault, New, At}
use Rattle.law_streams.specs.Streams.{Streamed, stream_from, stream_limit, stream_within}
use Rattle.law_streams.specs.Limits.{stream_behind}
use Rattle.pb_taps.specs.Faults.{RefusesNew, world_fault}
use Rattle.pb_taps.specs.declared.faults.NewFault as taps
use Rattle.pb_taps.specs.declared.faults.NewFault.TheVariants as new
use Rattle.pb_taps.specs.declared.faults.WorldFault.{WorldFault}
use Rattle.pb_taps.specs.declared.faults.WorldFault.TheVariants as fault
use Rattle.pb_scenario.specs.Faults.{model_fault}
use Rattle.pb_scenario.specs.Repeats.{StreamView, unrolled}
use Rattle.pb_scenario.specs.Walks.{WalkView}
use Rattle.pb_stream.specs.Streams.{HasPlayed, IsStreaming, LetsGo, StillHas, kept_of, past_in, rest_of}
use Rattle.pb_stream.specs.declared.streams.Progress.TheVariants as progress
use Rattle.pb_stream.specs.declared.streams.Stream.{Stream}
use Rattle.pb_texts.specs.Faults.{new_line, refused_line}
use Rattle.pb_texts.proofs.Outcomes.{world_fault-of}
use Rattle.pb_export.specs.Streamed.{Begins, GoesOn, entries_of, follow_in, head_of, may_go_in, unwritten}
use Rattle.pb_export.specs.declared.options.StreamExport.{StreamExport}
use Rattle.pb_export.specs.declared.options.StreamForm.{StreamForm}
use Rattle.pb_export.specs.declared.options.StreamForm.TheVariants as form
use Rattle.pb_export.specs.declared.streamed.StreamExporter.{StreamExporter}
use Rattle.pb_medium.specs.Entries.{entry_of}
use Rattle.pb_medium.specs.LettingGo.{gone_of}
use Rattle.pb_medium.specs.Traces.{limit_of, over_of}
use Rattle.pb_medium.specs.declared.entries.Entry as medium
use Rattle.pb_cli.proofs.Cuts.{later-since}
use Rattle.pb_cli.proofs.Written.{appends_both, appends_nothing, behind_both, behind_nothing, some_map}
use Rattle.pb_cli.specs.Exporting.{AppendsOn, AppendsRest, ExportsRun, ExportsScenario, IsToCome, written_of}
use Rattle.pb_cli.specs.Settling.{IsOfRun, Says}
use Rattle.pb_cli.specs.declared.faults.Status.TheVariants.{Done, Refused}
use Rattle.pb_cli.specs.declared.settled.Settled.{Settled}

-- ---- an instant

-- nothing is let go
pub keeps_all : (s : StreamView) (old next : Stream) (x : StreamExporter) (bytes : List ℕ) → StillHas old next → AppendsOn s old next x x bytes bytes
keeps_all s old next x bytes still = record {
  entries = [];
  text = [];
  bytes = sym (append-nil bytes);
  export = refl;
  written = λ later to_come. refl;
  rest = still.rest ∙ behind_nothing (rest_of next);
  ready = still.ready;
  until = still.until;
  later = still.later;
}

may_follow : (f : StreamForm) (mid next : Stream) → IsStreaming mid → LetsGo (past_in mid) mid next
    → follow_in f (past_in mid) (drop (gone_of mid.bus.trace) (kept_of mid)) ≡ true → (later : List Entry) → IsToCome next later
    → follow_in f (past_in mid) later ≡ true
may_follow form.Json mid next ready lets kept later to_come = refl
may_follow form.Pcap mid next ready lets kept later to_come = refl
may_follow form.Pcapng mid next ready lets kept later to_come = refl
may_follow form.Vcd mid next ready lets kept later to_come = later-since mid next ready lets kept later to_come

-- what is over is said, and let go
pub lets_go : (s : StreamView) (old mid next : Stream) (x y : StreamExporter) (over : ℕ) (before after : List ℕ) → StillHas old mid → over ≡ gone_of mid.bus.trace
    → (may_go_in x.export.form x (take over (kept_of mid)) && follow_in x.export.form (take over (kept_of mid)) (drop over (kept_of mid))) ≡ true
    → GoesOn x y s (past_in mid) before after → LetsGo (past_in mid) mid next → AppendsOn s old next x y before after
lets_go s old mid next x y over before after still count may said lets =
    let clock = ap (λ (w : WalkView). w.clock) lets.walk in
    let gone = gone_of mid.bus.trace in
    let f = x.export.form in
    let may_all = subst (λ (n : ℕ). (may_go_in f x (take n (kept_of mid)) && follow_in f (take n (kept_of mid)) (drop n (kept_of mid))) ≡ true) count may in
    let both = and_parts (may_go_in f x (past_in mid)) (follow_in f (past_in mid) (drop gone (kept_of mid))) may_all in
    record {
      entries = past_in mid;
      text = said.text;
      bytes = said.bytes;
      export = said.export;
      written = λ later to_come. said.rest both.0 later (may_follow f mid next still.ready lets both.1 later to_come);
      rest = still.rest ∙ lets.rest;
      ready = lets.ready;
      until = ap (λ (w : WalkView). w.until) lets.walk ∙ still.until;
      later = omega (arith, clock, still.later);
    }

gone-fits : (b : Bool) (over n : ℕ) → over ≤ n → (if b then over else 0) ≤ n
gone-fits true over n there = there
gone-fits false over n there = omega arith

-- as many as the slice of those that are over has
counted : (old mid : Stream) (past : List medium.Entry) (over : ℕ) → StillHas old mid → map entry_of past ≡ past_in mid → over ≡ length past
    → over ≡ gone_of mid.bus.trace
counted old mid past over still gone count =
    let t = mid.bus.trace in
    let there = gone-fits (nat_le (over_of t) (limit_of t)) (over_of t) (length (kept_of mid)) still.ready.kept.cut.2 in
    count ∙ sym (length-map past entry_of) ∙ ap length gone ∙ length-take-le (gone_of t) (kept_of mid) there

-- they are a front of those that it has
pub past-fits : (old mid : Stream) (entries past : List medium.Entry) (over : ℕ) → StillHas old mid → map entry_of entries ≡ kept_of mid
    → map entry_of past ≡ past_in mid → over ≡ length past → over ≤ length entries
past-fits old mid entries past over still kept gone count =
    let t = mid.bus.trace in
    let there = gone-fits (nat_le (over_of t) (limit_of t)) (over_of t) (length (kept_of mid)) still.ready.kept.cut.2 in
    let so_many : over ≡ gone_of t = counted old mid past over still gone count in
    let all : length entries ≡ length (kept_of mid) = sym (length-map entries entry_of) ∙ ap length kept in
    omega (arith, there, so_many, all)

-- what is let go, of slices as they are read
pub goes_so : (s : StreamView) (old mid next : Stream) (x y : StreamExporter) (entries past : List medium.Entry) (over : ℕ) (may : Bool) (before after : List ℕ)
    → StillHas old mid → map entry_of entries ≡ kept_of mid → map entry_of past ≡ past_in mid → over ≡ length past → may ≡ true
    → may ≡ (may_go_in x.export.form x (take over (map entry_of entries))
    && follow_in x.export.form (take over (map entry_of entries)) (drop over (map entry_of entries)))
    → GoesOn x y s (map entry_of past) before after → LetsGo (past_in mid) mid next → AppendsOn s old next x y before after
goes_so s old mid next x y entries past over may before after still kept gone count holds is said lets =
    let f = x.export.form in
    lets_go s old mid next x y over before after still (counted old mid past over still gone count)
    (subst (λ (es : List Entry). (may_go_in f x (take over es) && follow_in f (take over es) (drop over es)) ≡ true) kept (sym is ∙ holds))
    (subst (λ (es : List Entry). GoesOn x y s es before after) gone said) lets

-- where both cases join
pub joins : (s : StreamView) (old next joined : Stream) (x y z : StreamExporter) (before after whole : List ℕ) → joined ≡ next → z ≡ y → whole ≡ after
    → AppendsOn s old next x y before after → AppendsOn s old joined x z before whole
joins s old next joined x y z before after whole stream export bytes a =
    subst (λ (n : Stream). AppendsOn s old n x z before whole) (sym stream)
    (subst (λ (e : StreamExporter). AppendsOn s old next x e before whole) (sym export)
    (subst (λ (t : List ℕ). AppendsOn s old next x y before t) (sym bytes) a))

pub at_end : (s : StreamView) (old next : Stream) (x : StreamExporter) (before after : List ℕ) (ended : Settled) → HasPlayed progress.Ended old next
    → after ≡ before ++ unwritten x s (kept_of next) → ended.status ≡ Done → ended.line.items ≡ [] → AppendsRest s old x before after ended
at_end s old next x before after ended rest said status line = (record { entries = kept_of next; fault = None }, rest, said, tt, (status, line))

pub at_refusal : (s : StreamView) (old next : Stream) (x : StreamExporter) (clock : ℕ) (f : WorldFault) (before after : List ℕ) (ended : Settled)
    → HasPlayed (progress.Refused clock f) old next → after ≡ before ++ unwritten x s (kept_of next) → f ≢ fault.NoMemory → ended.status ≡ Refused
    → ended.line.items ≡ refused_line f clock → AppendsRest s old x before after ended
at_refusal s old next x clock f before after ended rest said told status line =
    world_fault-of f (λ (n : WorldFault). ended.line.items ≡ refused_line n clock → AppendsRest s old x before after ended)
    (some_map _ _ (model_fault f) by rest) told line
  where
    by : (g : model.Fault) → rest_of old ≡ Some (record { entries = kept_of next; fault = Some (At clock g) })
        → ended.line.items ≡ refused_line (world_fault g) clock → AppendsRest s old x before after ended
    by g whole is = (record { entries = kept_of next; fault = Some (At clock g) }, whole, said, tt, (status, is))

-- ---- a whole run

-- some of it is written, and the stream and the export go on
pub record Exports (x : StreamExport) (s : StreamView) (whole : Option Streamed) (stream : Stream) (y : StreamExporter) (before now : Option (List ℕ)) : Type 0 where
  pub done : List Entry
  pub text : List ℕ
  pub bytes : Appends before now text
  pub export : y.export ≡ x
  pub written : (later : List Entry) → IsToCome stream later → text ++ unwritten y s later ≡ entries_of x s (done ++ later)
  pub rest : whole ≡ stream_behind done (rest_of stream)
  pub ready : IsStreaming stream

pub begins : (x : StreamExport) (s : StreamView) (stream : Stream) (y : StreamExporter) (before : Option (List ℕ)) → Begins x s y → IsStreaming stream
    → Exports x s (rest_of stream) stream y before before
begins x s stream y before begun ready = record {
  done = [];
  text = [];
  bytes = appends_nothing before;
  export = begun.export;
  written = λ later to_come. begun.rest later;
  rest = behind_nothing (rest_of stream);
  ready = ready;
}

-- what is still to come of a stream, with what it lets go in front
still_to_come : (stream next : Stream) (entries later : List Entry) → rest_of stream ≡ stream_behind entries (rest_of next) → IsToCome next later
    → IsToCome stream (entries ++ later)
still_to_come stream next entries later rest (fault, is) = (fault, rest ∙ ap (stream_behind entries) is)

pub goes_on : (x : StreamExport) (s : StreamView) (whole : Option Streamed) (stream next : Stream) (y z : StreamExporter) (text : List ℕ) (before mid after : Option (List ℕ))
    → Exports x s whole stream y before mid → AppendsOn s stream next y z [] text → Appends mid after text → Exports x s whole next z before after
goes_on x s whole stream next y z text before mid after i a written = record {
  done = i.done ++ a.entries;
  text = i.text ++ a.text;
  bytes = appends_both before mid after i.text a.text i.bytes (subst (Appends mid after) a.bytes written);
  export = a.export ∙ i.export;
  written = λ later to_come.
      append_assoc i.text a.text (unwritten z s later) ∙ ap (λ (t : List ℕ). i.text ++ t) (a.written later to_come)
      ∙ i.written (a.entries ++ later) (still_to_come stream next a.entries later a.rest to_come)
      ∙ ap (entries_of x s) (sym (append_assoc i.done a.entries later));
  rest = i.rest ∙ ap (stream_behind i.done) a.rest ∙ behind_both i.done a.entries (rest_of next);
  ready = a.ready;
}

pub ends : (x : StreamExport) (s : StreamView) (whole : Option Streamed) (stream : Stream) (y : StreamExporter) (text : List ℕ) (before mid after : Option (List ℕ))
    (ended : Settled) → Exports x s whole stream y before mid → AppendsRest s stream y [] text ended → Appends mid after text → ExportsRun x s whole before after ended
ends x s whole stream y text before mid after ended i (rest, is, said, of_run, says) written = (
  record rest { entries = i.done ++ rest.entries },
  i.rest ∙ ap (stream_behind i.done) is,
  subst (Appends before after) (i.written rest.entries (rest.fault, is))
      (appends_both before mid after i.text (unwritten y s rest.entries) i.bytes (subst (Appends mid after) said written)),
  of_run,
  says,
)

-- ---- a scenario

behind_head : (x : StreamExport) (s : StreamView) (es : List Entry) (fault : Option RunFault) → IsOfRun fault → head_of x s ++ entries_of x s es ≡ written_of x s es fault
behind_head x s es None of_run = refl
behind_head x s es (Some (At clock f)) of_run = refl
behind_head x s es (Some (New f)) of_run = absurd of_run

pub whole_run : (x : StreamExport) (s : StreamView) (o : Option Streamed) (before mid after : Option (List ℕ)) (ended : Settled)
    → o ≡ stream_within stream_limit (unrolled s.until s) → Appends before mid (head_of x s) → ExportsRun x s o mid after ended → ExportsScenario x s before after ended
whole_run x s o before mid after ended same head (stream, is, entries, of_run, says) = (
  stream,
  sym same ∙ is,
  subst (Appends before after) (behind_head x s stream.entries stream.fault of_run) (appends_both before mid after (head_of x s) (entries_of x s stream.entries) head entries),
  says,
)

pub no_world : (x : StreamExport) (s : StreamView) (f : taps.NewFault) (line : List ℕ) (before after : Option (List ℕ)) (ended : Settled)
    → RefusesNew (new_world s.once.scenario.params s.once.scenario.taps) f → f ≢ new.NoMemory → line ≡ new_line f → Appends before after line
    → ended.status ≡ Refused → ended.line.items ≡ [] → ExportsScenario x s before after ended
no_world x s f line before after ended refuses told same written status nothing =
    by (first_fault (new_faults s.once.scenario.params s.once.scenario.taps)) _ _ refuses
  where
    by : (o : Option model.NewFault) (w v : World) → RefusesNew (unless_fault o w) f
        → (stream : Streamed) × (stream_from (unrolled s.until s) (unless_fault o v) ≡ Some stream) × Appends before after (written_of x s stream.entries stream.fault) × Says ended stream.fault
    by None w v is = absurd (told is)
    by (Some g) w v is = (
      record { entries = []; fault = Some (New g) },
      refl,
      subst (Appends before after) (same ∙ ap (λ (n : taps.NewFault). new_line n) is) written,
      (status, nothing),
    )
