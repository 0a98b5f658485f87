-- An initiator's table stands for the list of what it did.
use Rattle.std.proofs.Common.{◌≡◌, ◌≢◌, ◌∙◌, sym, subst, refl, ap, ℕ, ◌+◌, ◌≤◌, ◌<◌, ◌%◌, ◌==◌, Bool, true, false, if◌then◌else◌, cond, List, [], ◌∷◌, ◌++◌, length, slice_set, Option, Some, None, arith, count_by}
use Rattle.std.specs.List.{after_last}
use Rattle.std.proofs.lemmas.Bool.Decides.{nat_tests}
use Rattle.std.proofs.lemmas.Bool.{eqb-true, eqb-false}
use Rattle.std.proofs.lemmas.List.{get_or-set_same, get_or-set_other, length-set}
use Rattle.pb_cycles.specs.Fields.{Fields}
use Rattle.pb_cycles.specs.RequestFields.{RequestFields}
use Rattle.pb_cycles.specs.Requests.{IsAddressed}
use Rattle.pb_cycles.specs.declared.messages.Message.{Message}
use Rattle.pb_cycles.specs.declared.messages.Message.TheVariants.{Framed, Acknowledgement, TokenPass}
use Rattle.pb_cycles.specs.declared.services.Service.{Service}
use Rattle.pb_cycles.specs.declared.services.Service.TheVariants.{Sda, Sdn, Srd}
use Rattle.pb_cycles.proofs.NewestActs.{reverse-more, after_last-more, after_last-ends, count_by-more}
use Rattle.pb_cycles.specs.Acts.{Act, Told, Opened, Closed, sending_act, is_opening_to, is_unanswered_at, is_no_answer, number_to, count_of, open_in, retries_in, InitiatorStandsFor}
use Rattle.pb_cycles.specs.Counts.{count_at}
use Rattle.pb_telegram.specs.Control.{count_after}
use Rattle.pb_cycles.specs.Initiating.{first_sending, with_request, without_request, without_answer, after_request, outcome_of, after_outcome, closed_by}
use Rattle.pb_cycles.specs.Outcomes.{code_outcome, reply_outcome, is_reply_between}
use Rattle.pb_cycles.specs.Tables.{InitiatorTable}
use Rattle.pb_telegram.specs.declared.control.FrameCount.{FrameCount}
use Rattle.pb_telegram.specs.declared.control.FrameCount.TheVariants.{First}
use Rattle.pb_cycles.specs.declared.initiators.OpenRequest.{OpenRequest}
use Rattle.pb_cycles.specs.declared.outcomes.Outcome.{Outcome}
use Rattle.pb_cycles.specs.declared.outcomes.Outcome.TheVariants.{Acked, Data, NoResource, NoAnswer}

-- ---- the count after k requests

pub next_count : (k : ℕ) → count_after (count_of k) ≡ count_of (k + 1)
next_count k = grind (arith, nat_tests)

-- ---- numbers with one more act

number-more : (d : ℕ) (acts : List Act) (a : Act) → is_unanswered_at d a ≡ false → number_to d (acts ++ a ∷ []) ≡ number_to d acts + cond (is_opening_to d a) 1 0
number-more d acts a e = ap (count_by (is_opening_to d)) (after_last-more (is_unanswered_at d) acts a e) ∙ count_by-more (is_opening_to d) (after_last (is_unanswered_at d) acts) a

number-anew : (d : ℕ) (acts : List Act) (a : Act) → is_unanswered_at d a ≡ true → number_to d (acts ++ a ∷ []) ≡ 0
number-anew d acts a e = ap (count_by (is_opening_to d)) (after_last-ends (is_unanswered_at d) acts a e)

-- an act that neither asks the address nor ends without its answer
number-same : (d : ℕ) (acts : List Act) (a : Act) → is_unanswered_at d a ≡ false → is_opening_to d a ≡ false → number_to d (acts ++ a ∷ []) ≡ number_to d acts
number-same d acts a e f =
    number-more d acts a e ∙ subst (λ b. number_to d acts + cond b 1 0 ≡ number_to d acts) (sym f) (omega arith)

number-next : (d : ℕ) (acts : List Act) (a : Act) → is_unanswered_at d a ≡ false → is_opening_to d a ≡ true → number_to d (acts ++ a ∷ []) ≡ number_to d acts + 1
number-next d acts a e f =
    number-more d acts a e ∙ subst (λ b. number_to d acts + cond b 1 0 ≡ number_to d acts + 1) (sym f) refl

-- ---- a request

opened-count : (counts : List FrameCount) (acts : List Act) (f : Fields) (da d : ℕ) (same : Bool) → (f.da == d) ≡ same → f.da ≡ da → da < length counts
    → count_at counts d ≡ count_of (number_to d acts)
    → count_at (slice_set counts da (count_after (count_at counts da))) d ≡ count_of (number_to d (acts ++ Opened f ∷ []))
opened-count counts acts f da d true e at bound h =
    let here : d ≡ da = sym (eqb-true f.da d e) ∙ at in
    let told : count_of (number_to d acts + 1) ≡ count_of (number_to d (acts ++ Opened f ∷ [])) = ap count_of (sym (number-next d acts (Opened f) refl e)) in
    let set : count_at (slice_set counts da (count_after (count_at counts da))) da ≡ count_after (count_at counts da) = get_or-set_same counts da _ First bound in
    let value : count_after (count_at counts d) ≡ count_of (number_to d acts + 1) = ap count_after h ∙ next_count (number_to d acts) in
    subst (λ (x : ℕ). count_at (slice_set counts da (count_after (count_at counts da))) x ≡ count_after (count_at counts x)) (sym here) set ∙ value ∙ told
opened-count counts acts f da d false e at bound h =
    let other : d ≢ da = λ (same : d ≡ da). eqb-false f.da d e (at ∙ sym same) in
    get_or-set_other counts da d _ First other ∙ h ∙ ap count_of (sym (number-same d acts (Opened f) refl e))

pub opened : (t : InitiatorTable) (acts : List Act) (r : RequestFields) (f : Fields) → InitiatorStandsFor t acts → r.da ≤ 126 → f.da ≡ r.da
    → InitiatorStandsFor (with_request t r f) (acts ++ Opened f ∷ [])
opened t acts r f s bound at = record {
  stations = length-set t.counts r.da _ ∙ s.stations;
  counts = λ (d : ℕ) (h : d ≤ 126).
      let length_is : length t.counts ≡ 127 = s.stations in
      opened-count t.counts acts f r.da d (f.da == d) refl at (omega arith) (s.counts d h);
  pending = sym (ap open_in (reverse-more acts (Opened f)));
  left = subst (λ xs. t.retries + retries_in xs ≡ t.retries) (sym (reverse-more acts (Opened f))) (omega arith);
}

pub told : (t : InitiatorTable) (acts : List Act) (f : Fields) → InitiatorStandsFor t acts → InitiatorStandsFor (without_request t) (acts ++ Told f ∷ [])
told t acts f s = record {
  stations = s.stations;
  counts = λ (d : ℕ) (h : d ≤ 126). s.counts d h ∙ ap count_of (sym (number-same d acts (Told f) refl refl));
  pending = sym (ap open_in (reverse-more acts (Told f)));
  left = tt;
}

requested-by : (t : InitiatorTable) (acts : List Act) (ts : ℕ) (da : ℕ) (service : Service) (high : Bool) (unit : List ℕ) → InitiatorStandsFor t acts → IsAddressed da service
    → InitiatorStandsFor (after_request t ts (record { da = da; service = service; high = high; unit = unit }))
    (acts ++ sending_act (record { da = da; service = service; high = high; unit = unit }) (first_sending t ts (record { da = da; service = service; high = high; unit = unit })) ∷ [])
requested-by t acts ts da Sda high unit s bound = opened t acts (record { da = da; service = Sda; high = high; unit = unit }) _ s bound refl
requested-by t acts ts da Sdn high unit s bound = told t acts _ s
requested-by t acts ts da Srd high unit s bound = opened t acts (record { da = da; service = Srd; high = high; unit = unit }) _ s bound refl

pub requested : (t : InitiatorTable) (acts : List Act) (ts : ℕ) (r : RequestFields) → InitiatorStandsFor t acts → IsAddressed r.da r.service
    → InitiatorStandsFor (after_request t ts r) (acts ++ sending_act r (first_sending t ts r) ∷ [])
requested t acts ts r s bound = requested-by t acts ts r.da r.service r.high r.unit s bound

-- ---- an outcome

pub answered : (t : InitiatorTable) (acts : List Act) (d : ℕ) (outcome : Outcome) → InitiatorStandsFor t acts → is_no_answer outcome ≡ false
    → InitiatorStandsFor (without_request t) (acts ++ Closed d outcome ∷ [])
answered t acts d outcome s e = record {
  stations = s.stations;
  counts = λ (x : ℕ) (h : x ≤ 126). s.counts x h ∙ ap count_of (sym (number-same x acts (Closed d outcome) (no_answer_nowhere (d == x) outcome e) refl));
  pending = sym (ap open_in (reverse-more acts (Closed d outcome)));
  left = tt;
} where
  no_answer_nowhere : (b : Bool) (outcome : Outcome) → is_no_answer outcome ≡ false → (if b then is_no_answer outcome else false) ≡ false
  no_answer_nowhere true outcome e = e
  no_answer_nowhere false outcome e = refl

silent-count : (counts : List FrameCount) (acts : List Act) (da d : ℕ) (same : Bool) → (da == d) ≡ same → da < length counts
    → count_at counts d ≡ count_of (number_to d acts)
    → count_at (slice_set counts da First) d ≡ count_of (number_to d (acts ++ Closed da NoAnswer ∷ []))
silent-count counts acts da d true e bound h =
    let here : da ≡ d = eqb-true da d e in
    let anew : number_to d (acts ++ Closed da NoAnswer ∷ []) ≡ 0 = number-anew d acts (Closed da NoAnswer) (subst (λ b. (if b then true else false) ≡ true) (sym e) refl) in
    subst (λ (x : ℕ). count_at (slice_set counts da First) x ≡ First) here (get_or-set_same counts da First First bound) ∙ sym (ap count_of anew)
silent-count counts acts da d false e bound h =
    let other : d ≢ da = λ (same : d ≡ da). eqb-false da d e (sym same) in
    get_or-set_other counts da d First First other ∙ h
    ∙ ap count_of (sym (number-same d acts (Closed da NoAnswer) (subst (λ b. (if b then true else false) ≡ false) (sym e) refl) refl))

pub silent : (t : InitiatorTable) (acts : List Act) (d : ℕ) → InitiatorStandsFor t acts → d ≤ 126
    → InitiatorStandsFor (without_answer t d) (acts ++ Closed d NoAnswer ∷ [])
silent t acts d s bound = record {
  stations = length-set t.counts d First ∙ s.stations;
  counts = λ (x : ℕ) (h : x ≤ 126).
      let length_is : length t.counts ≡ 127 = s.stations in
      silent-count t.counts acts d x (d == x) refl (omega arith) (s.counts x h);
  pending = sym (ap open_in (reverse-more acts (Closed d NoAnswer)));
  left = tt;
}

code_is_answer : (code : ℕ) (unit : List ℕ) (outcome : Outcome) → code_outcome code unit ≡ Some outcome → is_no_answer outcome ≡ false
code_is_answer code unit Acked e = refl
code_is_answer code unit (Data more) e = refl
code_is_answer code unit NoResource e = refl
code_is_answer code unit NoAnswer e = grind (arith, nat_tests)

guarded : (b : Bool) (code : ℕ) (unit : List ℕ) (outcome : Outcome) → (if b then code_outcome code unit else None) ≡ Some outcome → is_no_answer outcome ≡ false
guarded true code unit outcome e = code_is_answer code unit outcome e
guarded false code unit outcome e = absurd cc

reply_is_answer : (ts d : ℕ) (m : Message) (outcome : Outcome) → reply_outcome ts d m ≡ Some outcome → is_no_answer outcome ≡ false
reply_is_answer ts d (Framed f) outcome e = guarded (is_reply_between ts d f) (f.fc % 16) f.unit outcome e
reply_is_answer ts d Acknowledgement Acked e = refl
reply_is_answer ts d Acknowledgement (Data unit) e = refl
reply_is_answer ts d Acknowledgement NoResource e = refl
reply_is_answer ts d Acknowledgement NoAnswer e = absurd cc
reply_is_answer ts d TokenPass outcome e = absurd cc

closed-with : (retries : ℕ) (counts : List FrameCount) (pending : Option OpenRequest) (acts : List Act) (o : OpenRequest) (reply : Option Message) (outcome : Outcome)
    → InitiatorStandsFor (record { retries = retries; counts = counts; pending = pending }) acts → pending ≡ Some o → o.sent.da ≤ 126
    → outcome_of (record { retries = retries; counts = counts; pending = pending }) reply ≡ Some outcome
    → InitiatorStandsFor (after_outcome (record { retries = retries; counts = counts; pending = pending }) reply) (acts ++ Closed o.sent.da outcome ∷ [])
closed-with retries counts None acts o reply outcome s is bound e = absurd cc
closed-with retries counts (Some q) acts o None outcome s is bound e =
    let same : q ≡ o = cc in
    let silence : NoAnswer ≡ outcome = cc in
    subst (λ (x : Outcome). InitiatorStandsFor (without_answer (record { retries = retries; counts = counts; pending = Some q }) q.sent.da) (acts ++ Closed o.sent.da x ∷ [])) silence
    (subst (λ (x : OpenRequest). InitiatorStandsFor (without_answer (record { retries = retries; counts = counts; pending = Some q }) x.sent.da) (acts ++ Closed o.sent.da NoAnswer ∷ [])) (sym same)
    (silent _ acts o.sent.da s bound))
closed-with retries counts (Some q) acts o (Some m) outcome s is bound e =
    subst (λ (x : Option Outcome). InitiatorStandsFor (closed_by (record { retries = retries; counts = counts; pending = Some q }) x) (acts ++ Closed o.sent.da outcome ∷ [])) (sym e)
    (answered _ acts o.sent.da outcome s (reply_is_answer q.sent.sa q.sent.da m outcome e))

pub closed : (t : InitiatorTable) (acts : List Act) (o : OpenRequest) (reply : Option Message) (outcome : Outcome)
    → InitiatorStandsFor t acts → t.pending ≡ Some o → o.sent.da ≤ 126 → outcome_of t reply ≡ Some outcome
    → InitiatorStandsFor (after_outcome t reply) (acts ++ Closed o.sent.da outcome ∷ [])
closed t acts o reply outcome s is bound e = closed-with t.retries t.counts t.pending acts o reply outcome s is bound e
