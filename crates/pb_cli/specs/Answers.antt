-- Of a call that reads a whole input and writes a text that is made of it: what it answers, and in which state it leaves both.
-- The reader was `was` and is `now`, the writer was `before` and is `after`; `gives` says which text an input may give.
use Rattle.std.specs.Prelude.{◌≡◌, ◌≢◌, ◌≤◌, ◌<◌, ◌+◌, ℕ, List, length, Result, Ok, Err, IfSome}
use Rattle.std.specs.Io.KnownBytes.{Appends, Keeps}
use Rattle.pb_texts.specs.Shown.{Shown}
use Rattle.pb_cli.specs.Reading.{byte_limit, call_limit, IsReadCause}
use Rattle.pb_cli.specs.Statuses.{status_of}
use Rattle.pb_cli.specs.Streams.{SinkView, SourceView}
use Rattle.pb_cli.specs.Writing.{AppendsFront, IsWriteCause}
use Rattle.pb_cli.specs.declared.faults.CliFault.{CliFault}
use Rattle.pb_cli.specs.declared.faults.CliFault.TheVariants.{NoMemory, Read, TooLong, Write}
use Rattle.pb_cli.specs.declared.faults.Status.{Status}

-- the one text that an input gives
abbrev pub Exactly : (List ℕ → Shown) → List ℕ → Shown → Type 0
Exactly text_of input shown = shown ≡ text_of input

-- ---- the writer

-- it holds the whole text, and the status is that of the text
abbrev pub WritesWhole : (List ℕ → Shown → Type 0) → List ℕ → (before after : SinkView) → Status → Type 0
WritesWhole gives input before after status =
    (shown : Shown) × gives input shown × Appends before.contents after.contents shown.text × (status ≡ status_of shown.is_refused)

-- a prefix of the text was written
abbrev pub WritesFront : (List ℕ → Shown → Type 0) → List ℕ → (before after : SinkView) → Type 0
WritesFront gives input before after = (shown : Shown) × gives input shown × AppendsFront before.contents after.contents shown.text

-- nothing was written, and no write failed
pub record WritesNothing (before after : SinkView) : Type 0 where
  pub nothing : Keeps before.contents after.contents
  pub unfailed : after.failures ≡ before.failures

-- ---- the reader

-- it gave the whole input, and no read failed
pub record ReadsWhole (was now : SourceView) : Type 0 where
  pub fits : IfSome was.remaining (λ input. length input ≤ byte_limit)
  pub unfailed : now.failures ≡ was.failures

-- ---- the call

-- the whole text is written
pub record Ends (gives : List ℕ → Shown → Type 0) (status : Status) (was now : SourceView) (before after : SinkView) : Type 0 where
  pub text : IfSome was.remaining (λ input. WritesWhole gives input before after status)
  pub read : ReadsWhole was now
  pub unfailed : after.failures ≡ before.failures

-- a prefix of the text was written
pub record FailsToWrite (gives : List ℕ → Shown → Type 0) (was now : SourceView) (before after : SinkView) : Type 0 where
  pub cause : IsWriteCause before after
  pub front : IfSome was.remaining (λ input. WritesFront gives input before after)
  pub read : ReadsWhole was now

-- by the answer
abbrev pub Leaves : (List ℕ → Shown → Type 0) → Result Status CliFault → (was now : SourceView) → (before after : SinkView) → Type 0
Leaves gives (Ok status) was now before after = Ends gives status was now before after
Leaves gives (Err Read) was now before after = IsReadCause was now × WritesNothing before after
Leaves gives (Err TooLong) was now before after =
    IfSome was.remaining (λ input. byte_limit < length input) × (now.failures ≡ was.failures) × WritesNothing before after
Leaves gives (Err Write) was now before after = FailsToWrite gives was now before after
Leaves gives (Err NoMemory) was now before after = (now.failures ≡ was.failures) × WritesNothing before after

abbrev pub Answers : (List ℕ → Shown → Type 0) → Result Status CliFault → (was now : SourceView) → (before after : SinkView) → Type 0
Answers gives result was now before after = (now.calls ≤ was.calls + call_limit) × Leaves gives result was now before after

-- ---- a call that reads nothing

-- no fault is one of a reader, and a failure of the writer is reported
abbrev pub ReportsWriter : {T : Type 0} → Result T CliFault → (before after : SinkView) → Type 0
ReportsWriter result before after =
    (result ≢ Err Read) × (result ≢ Err TooLong) × (result ≢ Err Write → after.failures ≡ before.failures)
