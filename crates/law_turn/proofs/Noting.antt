-- What a station makes of a Begin, of an End, and of a reply to its question.
use Rattle.std.proofs.Common.{◌≡◌, ◌≢◌, ◌∙◌, ℕ, ◌+◌, ◌<◌, ◌≤◌, ◌==◌, ◌&&◌, ◌%◌, ◌/◌, List, Bool, true, false, if◌then◌else◌, refl, ap, sym, Option, Some, None}
use Rattle.std.specs.Option.{option_or}
use Rattle.std.specs.Prelude.{nat_lt, max}
use Rattle.std.proofs.lemmas.Bool.{le-ltb, lt-ltb, eq-eqb, eqb-true, ne_eqb, and_parts}
use Rattle.pb_telegram.specs.declared.chars.RxChar.{RxChar}
use Rattle.pb_timers.specs.Timers.{Params}
use Rattle.pb_ring.specs.Las as las
use Rattle.pb_ring.specs.Las.{is_complete}
use Rattle.pb_cycles.specs.declared.services.Priority.TheVariants.{Low, High}
use Rattle.pb_cycles.specs.Fields.{Fields}
use Rattle.pb_cycles.specs.Messages.{has_bit, address_in}
use Rattle.pb_cycles.specs.Requests.{asked_by}
use Rattle.pb_cycles.specs.declared.messages.Message.TheVariants as message
use Rattle.pb_cycles.specs.declared.services.Asked.{Asked}
use Rattle.pb_cycles.specs.declared.services.Asked.TheVariants.{Send, Status, Unknown}
use Rattle.pb_cycles.specs.declared.services.Service.TheVariants.{Sda, Sdn, Srd}
use Rattle.pb_cycles.specs.Outcomes.{status_reply}
use Rattle.law_turn.specs.Arrivals.{Token, Framed, Acknowledgement, NoTelegram, arrival_of}
use Rattle.law_turn.specs.Hearing.{phase_begun, begun, is_status, asks_status, status_answer, listening_hears, lost, tells_ready, status_told, awaiting_status_hears, phase_ended, ended, after_mark, ready_for_ring, not_ready}
use Rattle.law_turn.specs.Laws.{awaits_reply, status_reply_of}
use Rattle.law_turn.specs.Marks.{Begin, End}
use Rattle.law_turn.specs.Phases.{Phase, Offline, PassiveIdle, Listening, Idle, Claim, Use, AwaitData, AwaitStatus, Pass, Checking, is_offline}
use Rattle.law_turn.specs.Stations.{Station, Reply}
use Rattle.law_turn.specs.Turns.{replying, joining, says_reply, says_ready, phase_says}
use Rattle.law_turn.proofs.Busy.{same-ended}
use Rattle.law_turn.proofs.Cases.{by_test, and-false}
use Rattle.law_turn.proofs.Paths.{at_end}

-- ---- a Begin

-- the phase after a Begin, of a station that is not offline
begin-phase : (p : Params) (s : Station) (ph : Phase) (at seen : ℕ) → s.phase ≡ ph → is_offline ph ≡ false → (after_mark p s (Begin at seen)).phase ≡ phase_begun ph s.own.begin at
begin-phase p s ph at seen e runs =
    ap (λ (b : Bool). (if b then s else begun s at).phase) (ap is_offline e ∙ runs) ∙ ap (λ (x : Phase). phase_begun x s.own.begin at) e

and-true : (b : Bool) → (b && true) ≡ b
and-true true = refl
and-true false = refl

-- a slot is over at activity that began with the own telegram or later
slot-over : (slot : Bool) (own at : ℕ) → own ≤ at → (slot && nat_lt at own) ≡ false
slot-over slot own at since = and-false slot (nat_lt at own) (le-ltb at own since)

slot-stays : (slot : Bool) (own at : ℕ) → at < own → (slot && nat_lt at own) ≡ slot
slot-stays slot own at before = ap (λ (b : Bool). slot && b) (lt-ltb at own before) ∙ and-true slot

pub begin-namesake : (p : Params) (s : Station) (doubled : Bool) (at seen : ℕ) → s.phase ≡ Listening doubled → (after_mark p s (Begin at seen)).phase ≡ Listening doubled
begin-namesake p s doubled at seen e = begin-phase p s (Listening doubled) at seen e refl

pub begin-refused : (p : Params) (s : Station) (refused : Option ℕ) (at seen : ℕ) → s.phase ≡ Idle refused → (after_mark p s (Begin at seen)).phase ≡ Idle refused
begin-refused p s refused at seen e = begin-phase p s (Idle refused) at seen e refl

pub begin-question : (p : Params) (s : Station) (of at seen : ℕ) (slot : Bool) → s.phase ≡ AwaitStatus of slot → s.own.begin ≤ at
    → (after_mark p s (Begin at seen)).phase ≡ AwaitStatus of false
begin-question p s of at seen slot e since = begin-phase p s (AwaitStatus of slot) at seen e refl ∙ ap (AwaitStatus of) (slot-over slot s.own.begin at since)

pub begin-question_before : (p : Params) (s : Station) (of at seen : ℕ) (slot : Bool) → s.phase ≡ AwaitStatus of slot → at < s.own.begin
    → (after_mark p s (Begin at seen)).phase ≡ AwaitStatus of slot
begin-question_before p s of at seen slot e before = begin-phase p s (AwaitStatus of slot) at seen e refl ∙ ap (AwaitStatus of) (slot-stays slot s.own.begin at before)

pub begin-request : (p : Params) (s : Station) (asked : Bool) (retry : Option ℕ) (slot : Bool) (at seen : ℕ) → s.phase ≡ AwaitData asked retry slot → s.own.begin ≤ at
    → (after_mark p s (Begin at seen)).phase ≡ AwaitData asked None false
begin-request p s asked retry slot at seen e since =
    begin-phase p s (AwaitData asked retry slot) at seen e refl ∙ ap (AwaitData asked None) (slot-over slot s.own.begin at since)

pub begin-request_before : (p : Params) (s : Station) (asked : Bool) (retry : Option ℕ) (slot : Bool) (at seen : ℕ) → s.phase ≡ AwaitData asked retry slot → at < s.own.begin
    → (after_mark p s (Begin at seen)).phase ≡ AwaitData asked None slot
begin-request_before p s asked retry slot at seen e before =
    begin-phase p s (AwaitData asked retry slot) at seen e refl ∙ ap (AwaitData asked None) (slot-stays slot s.own.begin at before)

pub begin-claim : (p : Params) (s : Station) (sent ready at seen : ℕ) → s.phase ≡ Claim sent ready → (after_mark p s (Begin at seen)).phase ≡ Idle None
begin-claim p s sent ready at seen e = begin-phase p s (Claim sent ready) at seen e refl

pub begin-use : (p : Params) (s : Station) (asked : Bool) (ready at seen : ℕ) → s.phase ≡ Use asked ready → (after_mark p s (Begin at seen)).phase ≡ Idle None
begin-use p s asked ready at seen e = begin-phase p s (Use asked ready) at seen e refl

pub begin-pass : (p : Params) (s : Station) (tries ready at seen : ℕ) → s.phase ≡ Pass tries ready → (after_mark p s (Begin at seen)).phase ≡ Idle None
begin-pass p s tries ready at seen e = begin-phase p s (Pass tries ready) at seen e refl

-- ---- what is known outlasts replies

pub token-of_another : (p : Params) (s : Station) (doubled : Bool) (at da sa : ℕ) → (sa == s.address) ≡ false
    → listening_hears p s doubled at (Token da sa) ≡ record s { phase = Listening doubled; las = las.heard s.las sa da }
token-of_another p s doubled at da sa other =
    ap (λ (b : Bool). record s { phase = if b then if doubled then Offline else Listening true else Listening doubled; las = las.heard s.las sa da }) other

pub reply-keeps : (p : Params) (s : Station) (refused : Option ℕ) (now : ℕ) → (phase_says p s (Idle refused) now).0.phase ≡ s.phase
reply-keeps p s refused now = by_reply s.reply
  where
    by_reply : (o : Option Reply) → (says_reply s o now).0.phase ≡ s.phase
    by_reply None = refl
    by_reply (Some r) = refl

-- one that listens and says whether it is ready
ready-by : (p : Params) (s : Station) (doubled : Bool) (now : ℕ) (r : Reply) (b : Bool) → s.reply ≡ Some r → r.joins ≡ b
    → (phase_says p s (Listening doubled) now).0.phase ≡ (if b then Idle None else s.phase)
ready-by p s doubled now r b is joins =
    ap (λ (o : Option Reply). (says_ready s o now).0.phase) is ∙ by_joins r.joins
    ∙ ap (λ (b : Bool). if b then Idle None else s.phase) joins
  where
    by_joins : (b : Bool) → (if b then joining (replying s now r) else replying s now r).phase ≡ (if b then Idle None else s.phase)
    by_joins true = refl
    by_joins false = refl

pub ready-stays : (p : Params) (s : Station) (doubled : Bool) (now : ℕ) (r : Reply) → s.reply ≡ Some r → r.joins ≡ false
    → (phase_says p s (Listening doubled) now).0.phase ≡ s.phase
ready-stays p s doubled now r is joins = ready-by p s doubled now r false is joins

pub ready-joins : (p : Params) (s : Station) (doubled : Bool) (now : ℕ) (r : Reply) → s.reply ≡ Some r → r.joins ≡ true
    → (phase_says p s (Listening doubled) now).0.phase ≡ Idle None
ready-joins p s doubled now r is joins = ready-by p s doubled now r true is joins

-- ---- an End

end-heard : (p : Params) (s : Station) (at seen : ℕ) (chars : List RxChar) → is_offline s.phase ≡ false → after_mark p s (End at seen chars) ≡ ended p s at (arrival_of chars)
end-heard p s at seen chars runs = ap (λ (b : Bool). if b then s else ended p s at (arrival_of chars)) runs

damage-hears : (p : Params) (x : Station) (ph : Phase) (at : ℕ) → awaits_reply ph ≡ false → phase_ended p x ph at NoTelegram ≡ x
damage-hears p x Offline at e = refl
damage-hears p x PassiveIdle at e = refl
damage-hears p x (Listening doubled) at e = refl
damage-hears p x (Idle refused) at e = refl
damage-hears p x (Claim sent ready) at e = refl
damage-hears p x (Use asked ready) at e = refl
damage-hears p x (AwaitData asked retry slot) at e = absurd (let wrong : true ≡ false = e in cc)
damage-hears p x (AwaitStatus of slot) at e = absurd (let wrong : true ≡ false = e in cc)
damage-hears p x (Pass tries ready) at e = refl
damage-hears p x (Checking tries) at e = refl

acknowledgement-hears : (p : Params) (x : Station) (ph : Phase) (at : ℕ) → awaits_reply ph ≡ false → phase_ended p x ph at Acknowledgement ≡ x
acknowledgement-hears p x Offline at e = refl
acknowledgement-hears p x PassiveIdle at e = refl
acknowledgement-hears p x (Listening doubled) at e = refl
acknowledgement-hears p x (Idle refused) at e = refl
acknowledgement-hears p x (Claim sent ready) at e = refl
acknowledgement-hears p x (Use asked ready) at e = refl
acknowledgement-hears p x (AwaitData asked retry slot) at e = absurd (let wrong : true ≡ false = e in cc)
acknowledgement-hears p x (AwaitStatus of slot) at e = absurd (let wrong : true ≡ false = e in cc)
acknowledgement-hears p x (Pass tries ready) at e = refl
acknowledgement-hears p x (Checking tries) at e = refl

pub end-damage : (p : Params) (s : Station) (at seen : ℕ) (chars : List RxChar) → is_offline s.phase ≡ false → awaits_reply s.phase ≡ false → arrival_of chars ≡ NoTelegram
    → after_mark p s (End at seen chars) ≡ at_end s at
end-damage p s at seen chars runs waits is =
    end-heard p s at seen chars runs ∙ ap (ended p s at) is ∙ damage-hears p (at_end s at) s.phase at waits

pub end-acknowledgement : (p : Params) (s : Station) (at seen : ℕ) (chars : List RxChar) → is_offline s.phase ≡ false → awaits_reply s.phase ≡ false
    → arrival_of chars ≡ Acknowledgement → after_mark p s (End at seen chars) ≡ at_end s at
end-acknowledgement p s at seen chars runs waits is =
    end-heard p s at seen chars runs ∙ ap (ended p s at) is ∙ acknowledgement-hears p (at_end s at) s.phase at waits

-- ---- how long it is quiet

pub end-busy : (p : Params) (s : Station) (at seen : ℕ) (chars : List RxChar) → is_offline s.phase ≡ false → (after_mark p s (End at seen chars)).busy ≡ false
end-busy p s at seen chars runs =
    ap (λ (x : Station). x.busy) (end-heard p s at seen chars runs) ∙ ap (λ (q : Bool × ℕ). q.0) (same-ended p (at_end s at) s.phase at (arrival_of chars))

pub end-quiet : (p : Params) (s : Station) (at seen : ℕ) (chars : List RxChar) → is_offline s.phase ≡ false → (after_mark p s (End at seen chars)).quiet ≡ max s.quiet at
end-quiet p s at seen chars runs =
    ap (λ (x : Station). x.quiet) (end-heard p s at seen chars runs) ∙ ap (λ (q : Bool × ℕ). q.1) (same-ended p (at_end s at) s.phase at (arrival_of chars))

pub begin-quiet : (p : Params) (s : Station) (at seen : ℕ) → (after_mark p s (Begin at seen)).quiet ≡ s.quiet
begin-quiet p s at seen = by_test (λ (x : Station). x.quiet ≡ s.quiet) (is_offline s.phase) s (begun s at) (λ _. refl) (λ _. refl)

-- ---- a reply to the question for the status

-- one that is no request, and replies or doesn't
told-by : (p : Params) (s : Station) (of at : ℕ) (f : Fields) (o : Option ℕ) → has_bit f.fc 6 ≡ false → status_reply s.address of (message.Framed f) ≡ o
    → awaiting_status_hears p s of at (Framed f) ≡ status_told p s of at o
told-by p s of at f o reply is =
    ap (λ (b : Bool). if b then lost s else status_told p s of at (status_reply s.address of (message.Framed f))) reply ∙ ap (status_told p s of at) is

pub told-goes_on : (p : Params) (s : Station) (of at fc : ℕ) (f : Fields) → has_bit f.fc 6 ≡ false → status_reply s.address of (message.Framed f) ≡ Some fc
    → (awaiting_status_hears p s of at (Framed f)).phase ≡ Use true (at + p.tid1)
told-goes_on p s of at fc f reply is = ap (λ (x : Station). x.phase) (told-by p s of at f (Some fc) reply is)

pub told-no_reply : (p : Params) (s : Station) (of at : ℕ) (f : Fields) → has_bit f.fc 6 ≡ false → status_reply s.address of (message.Framed f) ≡ None
    → awaiting_status_hears p s of at (Framed f) ≡ record s { phase = Use true (max at s.own.end + p.tid1) }
told-no_reply p s of at f reply is = told-by p s of at f None reply is

-- the list after the reply, by whether that says that the station is ready
told-list : (p : Params) (s : Station) (of at fc : ℕ) (f : Fields) (b : Bool) → has_bit f.fc 6 ≡ false → status_reply s.address of (message.Framed f) ≡ Some fc
    → tells_ready fc ≡ b → (awaiting_status_hears p s of at (Framed f)).las ≡ (if b then las.entered s.las of else s.las)
told-list p s of at fc f b reply is tells =
    ap (λ (x : Station). x.las) (told-by p s of at f (Some fc) reply is) ∙ ap (λ (b : Bool). if b then las.entered s.las of else s.las) tells

pub told-ready : (p : Params) (s : Station) (of at fc : ℕ) (f : Fields) → has_bit f.fc 6 ≡ false → status_reply s.address of (message.Framed f) ≡ Some fc
    → fc / 16 % 4 ≡ 2 → fc % 16 ≡ 0 → (awaiting_status_hears p s of at (Framed f)).las ≡ las.entered s.las of
told-ready p s of at fc f reply is type ok =
    told-list p s of at fc f true reply is
    (ap (λ (b : Bool). b && fc % 16 == 0) (eq-eqb (fc / 16 % 4) 2 type) ∙ eq-eqb (fc % 16) 0 ok)

pub told-another : (p : Params) (s : Station) (of at fc : ℕ) (f : Fields) → has_bit f.fc 6 ≡ false → status_reply s.address of (message.Framed f) ≡ Some fc
    → fc / 16 % 4 ≢ 2 → (awaiting_status_hears p s of at (Framed f)).las ≡ s.las
told-another p s of at fc f reply is other =
    told-list p s of at fc f false reply is (ap (λ (b : Bool). b && fc % 16 == 0) (ne_eqb (fc / 16 % 4) 2 other))

pub told-error : (p : Params) (s : Station) (of at fc : ℕ) (f : Fields) → has_bit f.fc 6 ≡ false → status_reply s.address of (message.Framed f) ≡ Some fc
    → fc % 16 ≢ 0 → (awaiting_status_hears p s of at (Framed f)).las ≡ s.las
told-error p s of at fc f reply is error =
    told-list p s of at fc f false reply is
    (and-false (fc / 16 % 4 == 2) (fc % 16 == 0) (ne_eqb (fc % 16) 0 error))

-- ---- the question for the status

no-status : (a : Asked) (n : ℕ) → is_status a ≡ false → is_status a ≡ true → n ≡ 9
no-status a n other asks = absurd (let wrong : false ≡ true = sym other ∙ asks in cc)

-- the question for the status has function code 9
status-code : (n : ℕ) → is_status (asked_by n) ≡ true → n ≡ 9
status-code n =
    let Q : Asked → Type 0 = λ a. is_status a ≡ true → n ≡ 9 in
    by_test Q (n == 3) (Send Sda Low) _ (λ _. no-status (Send Sda Low) n refl)
    (λ _. by_test Q (n == 4) (Send Sdn Low) _ (λ _. no-status (Send Sdn Low) n refl)
    (λ _. by_test Q (n == 5) (Send Sda High) _ (λ _. no-status (Send Sda High) n refl)
    (λ _. by_test Q (n == 6) (Send Sdn High) _ (λ _. no-status (Send Sdn High) n refl)
    (λ _. by_test Q (n == 9) Status _ (λ nine asks. eqb-true n 9 nine)
    (λ _. by_test Q (n == 12) (Send Srd Low) _ (λ _. no-status (Send Srd Low) n refl)
    (λ _. by_test Q (n == 13) (Send Srd High) Unknown (λ _. no-status (Send Srd High) n refl) (λ _. no-status Unknown n refl)))))))

asks-parts : (ts : ℕ) (f : Fields) → asks_status ts f ≡ true → (has_bit f.fc 6 ≡ true) × (is_status (asked_by (f.fc % 16)) ≡ true) × ((address_in f.da == ts) ≡ true)
asks-parts ts f asks =
    let parts = and_parts (has_bit f.fc 6) (is_status (asked_by (f.fc % 16)) && address_in f.da == ts) asks in
    let more = and_parts (is_status (asked_by (f.fc % 16))) (address_in f.da == ts) parts.1 in
    (parts.0, more.0, more.1)

pub asks-status : (ts : ℕ) (f : Fields) → has_bit f.fc 6 ≡ true → f.fc % 16 ≡ 9 → f.da % 128 ≡ ts → asks_status ts f ≡ true
asks-status ts f request code here =
    ap (λ (b : Bool). b && (is_status (asked_by (f.fc % 16)) && address_in f.da == ts)) request
    ∙ ap (λ (n : ℕ). is_status (asked_by n) && address_in f.da == ts) code ∙ eq-eqb (f.da % 128) ts here

pub asks-request : (ts : ℕ) (f : Fields) → asks_status ts f ≡ true → has_bit f.fc 6 ≡ true
asks-request ts f asks = (asks-parts ts f asks).0

pub asks-code : (ts : ℕ) (f : Fields) → asks_status ts f ≡ true → f.fc % 16 ≡ 9
asks-code ts f asks = status-code (f.fc % 16) (asks-parts ts f asks).1

pub asks-address : (ts : ℕ) (f : Fields) → asks_status ts f ≡ true → f.da % 128 ≡ ts
asks-address ts f asks = eqb-true (f.da % 128) ts (asks-parts ts f asks).2

nothing-unless : (b : Bool) (r : Reply) → b ≡ false → (if b then Some r else None) ≡ None
nothing-unless true r e = absurd (let wrong : true ≡ false = e in cc)
nothing-unless false r e = refl

pub asks-silent : (p : Params) (s : Station) (doubled : Bool) (at : ℕ) (f : Fields) → asks_status s.address f ≡ false → listening_hears p s doubled at (Framed f) ≡ s
asks-silent p s doubled at f other =
    by_test (λ (o : Option Reply). record s { reply = option_or o s.reply } ≡ s) (is_complete s.las.stage) (status_answer p s at f ready_for_ring true) (status_answer p s at f not_ready false)
    (λ _. ap (λ (o : Option Reply). record s { reply = option_or o s.reply }) (nothing-unless (asks_status s.address f) (status_reply_of p s at f 0x20 true) other))
    (λ _. ap (λ (o : Option Reply). record s { reply = option_or o s.reply }) (nothing-unless (asks_status s.address f) (status_reply_of p s at f 0x10 false) other))
