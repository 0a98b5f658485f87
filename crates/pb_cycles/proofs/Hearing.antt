-- A responder's table stands for the list of what the station heard.
use Rattle.std.proofs.Common.{◌≡◌, ◌∙◌, sym, subst, refl, ap, ℕ, ◌+◌, ◌%◌, ◌==◌, ◌⊎◌, inl, inr, Bool, true, false, ◌&&◌, ◌||◌, if◌then◌else◌, cond, List, [], ◌∷◌, ◌++◌, Option, Some, arith, count_by, append-nil}
use Rattle.std.proofs.lemmas.Bool.{eqb-true, and_parts}
use Rattle.std.proofs.lemmas.Grind.{flat_map-append}
use Rattle.pb_cycles.specs.Fields.{Fields}
use Rattle.pb_cycles.specs.Messages.{has_bit, address_in}
use Rattle.pb_cycles.specs.Requests.{asked_by}
use Rattle.pb_cycles.specs.declared.messages.Message.{Message}
use Rattle.pb_cycles.specs.declared.messages.Message.TheVariants.{Framed, Acknowledgement, TokenPass}
use Rattle.pb_cycles.specs.declared.messages.Reply.{Reply}
use Rattle.pb_cycles.specs.declared.services.Asked.{Asked}
use Rattle.pb_cycles.specs.declared.services.Asked.TheVariants.{Send, Status, Unknown}
use Rattle.pb_cycles.specs.declared.services.Service.TheVariants.{Sda, Sdn, Srd}
use Rattle.pb_cycles.proofs.NewestActs.{count_by-more}
use Rattle.pb_cycles.specs.Calls.{Heard, Call, asked_calls, message_calls, calls, is_told_by, is_told, repeats, new_behind, new_calls, executed_in, last_behind, last_new_behind, call_reply, kept_in, ResponderStandsFor}
use Rattle.pb_cycles.specs.Responding.{same_bit, is_repeat, one_more, counted, executed, once, after_asked, after_message}
use Rattle.pb_cycles.specs.Tables.{ResponderTable}
use Rattle.pb_cycles.specs.declared.responders.Kept.{Kept}

-- ---- one more call

last-more : (before : Call) (cs : List Call) (x : Call) → last_behind before (cs ++ x ∷ []) ≡ x
last-more before [] x = refl
last-more before (c ∷ cs) x = last-more c cs x

new-more : (before : Call) (cs : List Call) (x : Call) → new_behind before (cs ++ x ∷ []) ≡ new_behind before cs + (if repeats (last_behind before cs) x then 0 else 1)
new-more before [] x = omega arith
new-more before (c ∷ cs) x = let more : new_behind c (cs ++ x ∷ []) ≡ new_behind c cs + (if repeats (last_behind c cs) x then 0 else 1) = new-more c cs x in omega arith

last_new-more : (newest before : Call) (cs : List Call) (x : Call)
    → last_new_behind newest before (cs ++ x ∷ []) ≡ (if repeats (last_behind before cs) x then last_new_behind newest before cs else x)
last_new-more newest before [] x = refl
last_new-more newest before (c ∷ cs) x = last_new-more (if repeats before c then newest else c) c cs x

same_bit-true : (a b : Bool) → same_bit a b ≡ true → a ≡ b
same_bit-true true true e = refl
same_bit-true true false e = absurd cc
same_bit-true false true e = absurd cc
same_bit-true false false e = refl

-- what a repeat leaves as it was
record Repeated (ts : ℕ) (unit : List ℕ) (cs : List Call) (x : Call) : Type 0 where
  number : new_calls (cs ++ x ∷ []) ≡ new_calls cs
  kept : kept_in ts unit (cs ++ x ∷ []) ≡ kept_in ts unit cs

-- what another call changes
record New (ts : ℕ) (unit : List ℕ) (cs : List Call) (x : Call) : Type 0 where
  number : new_calls (cs ++ x ∷ []) ≡ new_calls cs + 1
  kept : kept_in ts unit (cs ++ x ∷ []) ≡ Some (record { requester = address_in x.frame.sa; bit = has_bit x.frame.fc 5; reply = call_reply ts unit x })

abbrev kept_as : ℕ → Bool → Reply → Option Kept
kept_as a p r = Some (record { requester = a; bit = p; reply = r })

same_kept : (a b : ℕ) (p q : Bool) (r s : Reply) → a ≡ b → p ≡ q → r ≡ s → kept_as a p r ≡ kept_as b q s
same_kept a b p q r s e f g =
    ap (λ (n : ℕ). kept_as n p r) e ∙ ap (λ (x : Bool). kept_as b x r) f ∙ ap (kept_as b q) g

repeated : (ts : ℕ) (unit : List ℕ) (cs : List Call) (x : Call) → is_repeat (kept_in ts unit cs) x.frame ≡ true → Repeated ts unit cs x
repeated ts unit [] x e = absurd cc
repeated ts unit (c ∷ cs) x e =
    let parts : (has_bit x.frame.fc 4 ≡ true)
    × ((address_in (last_behind c cs).frame.sa == address_in x.frame.sa && same_bit (has_bit (last_behind c cs).frame.fc 5) (has_bit x.frame.fc 5)) ≡ true)
    = and_parts _ _ e in
    let who : ((address_in (last_behind c cs).frame.sa == address_in x.frame.sa) ≡ true) × (same_bit (has_bit (last_behind c cs).frame.fc 5) (has_bit x.frame.fc 5) ≡ true)
    = and_parts _ _ parts.1 in
    record {
      number = ap (λ (n : ℕ). 1 + n) (new-more c cs x ∙ subst (λ b. new_behind c cs + (if b then 0 else 1) ≡ new_behind c cs) (sym e) (omega arith));
      kept = same_kept _ _ _ _ _ _
          (ap (λ (y : Call). address_in y.frame.sa) (last-more c cs x) ∙ sym (eqb-true _ _ who.0))
          (ap (λ (y : Call). has_bit y.frame.fc 5) (last-more c cs x) ∙ sym (same_bit-true _ _ who.1))
          (ap (call_reply ts unit) (last_new-more c c cs x ∙ subst (λ b. (if b then last_new_behind c c cs else x) ≡ last_new_behind c c cs) (sym e) refl));
    }

new : (ts : ℕ) (unit : List ℕ) (cs : List Call) (x : Call) → is_repeat (kept_in ts unit cs) x.frame ≡ false → New ts unit cs x
new ts unit [] x e = record { number = refl; kept = refl }
new ts unit (c ∷ cs) x e = record {
  number = ap (λ (n : ℕ). 1 + n) (new-more c cs x ∙ subst (λ b. new_behind c cs + (if b then 0 else 1) ≡ new_behind c cs + 1) (sym e) refl)
      ∙ omega arith;
  kept = same_kept _ _ _ _ _ _
      (ap (λ (y : Call). address_in y.frame.sa) (last-more c cs x))
      (ap (λ (y : Call). has_bit y.frame.fc 5) (last-more c cs x))
      (ap (call_reply ts unit) (last_new-more c c cs x ∙ subst (λ b. (if b then last_new_behind c c cs else x) ≡ x) (sym e) refl));
}

-- ---- one more message

calls-more : (ts : ℕ) (heard : List Heard) (h : Heard) (cs : List Call) → message_calls ts h.station_type h.message ≡ cs → calls ts (heard ++ h ∷ []) ≡ calls ts heard ++ cs
calls-more ts heard h cs e =
    flat_map-append (λ (x : Heard). message_calls ts x.station_type x.message) heard (h ∷ [])
    ∙ ap (λ (more : List Call). calls ts heard ++ more) (append-nil (message_calls ts h.station_type h.message) ∙ e)

told-more : (ts : ℕ) (heard : List Heard) (h : Heard) (b : Bool) → is_told ts h.message ≡ b
    → count_by (λ (x : Heard). is_told ts x.message) (heard ++ h ∷ []) ≡ count_by (λ (x : Heard). is_told ts x.message) heard + cond b 1 0
told-more ts heard h b e =
    count_by-more (λ (x : Heard). is_told ts x.message) heard h ∙ ap (λ (c : Bool). count_by (λ (x : Heard). is_told ts x.message) heard + cond c 1 0) e

executed-more : (ts : ℕ) (heard : List Heard) (h : Heard) (told fresh : ℕ) → count_by (λ (x : Heard). is_told ts x.message) (heard ++ h ∷ []) ≡ count_by (λ (x : Heard). is_told ts x.message) heard + told
    → new_calls (calls ts (heard ++ h ∷ [])) ≡ new_calls (calls ts heard) + fresh → told + fresh ≡ 0 → executed_in ts heard ≡ executed_in ts (heard ++ h ∷ [])
executed-more ts heard h told fresh e f g = omega arith

executed-next : (ts : ℕ) (heard : List Heard) (h : Heard) (told fresh : ℕ) → count_by (λ (x : Heard). is_told ts x.message) (heard ++ h ∷ []) ≡ count_by (λ (x : Heard). is_told ts x.message) heard + told
    → new_calls (calls ts (heard ++ h ∷ [])) ≡ new_calls (calls ts heard) + fresh → told + fresh ≡ 1 → one_more (executed_in ts heard) ≡ executed_in ts (heard ++ h ∷ [])
executed-next ts heard h told fresh e f g = omega arith

-- a message is nothing to the table, or an SDN that is counted, or a call
abbrev Effect : ℕ → ResponderTable → List Call → Bool → ResponderTable → Type 0
Effect ts t cs told after =
    ((cs ≡ []) × (told ≡ false) × (after ≡ t))
    ⊎ (((cs ≡ []) × (told ≡ true) × (after ≡ counted t))
    ⊎ ((x : Call) × (cs ≡ x ∷ []) × (told ≡ false) × (after ≡ once t x.frame (call_reply ts t.reply x))))

nothing-more : (ts : ℕ) (t : ResponderTable) (heard : List Heard) (h : Heard) → ResponderStandsFor ts t heard → message_calls ts h.station_type h.message ≡ [] → is_told ts h.message ≡ false
    → ResponderStandsFor ts t (heard ++ h ∷ [])
nothing-more ts t heard h s e f =
    let same : calls ts (heard ++ h ∷ []) ≡ calls ts heard = calls-more ts heard h [] e ∙ append-nil (calls ts heard) in
    record {
      executed = s.executed ∙ executed-more ts heard h 0 0 (told-more ts heard h false f) (ap new_calls same ∙ omega arith) refl;
      kept = s.kept ∙ ap (kept_in ts t.reply) (sym same);
    }

counted-more : (ts : ℕ) (t : ResponderTable) (heard : List Heard) (h : Heard) → ResponderStandsFor ts t heard → message_calls ts h.station_type h.message ≡ [] → is_told ts h.message ≡ true
    → ResponderStandsFor ts (counted t) (heard ++ h ∷ [])
counted-more ts t heard h s e f =
    let same : calls ts (heard ++ h ∷ []) ≡ calls ts heard = calls-more ts heard h [] e ∙ append-nil (calls ts heard) in
    record {
      executed = ap one_more s.executed ∙ executed-next ts heard h 1 0 (told-more ts heard h true f) (ap new_calls same ∙ omega arith) refl;
      kept = s.kept ∙ ap (kept_in ts t.reply) (sym same);
    }

call-more : (ts : ℕ) (t : ResponderTable) (heard : List Heard) (h : Heard) (x : Call) (again : Bool) → ResponderStandsFor ts t heard
    → message_calls ts h.station_type h.message ≡ x ∷ [] → is_told ts h.message ≡ false → is_repeat (kept_in ts t.reply (calls ts heard)) x.frame ≡ again
    → ResponderStandsFor ts (if again then t else executed t x.frame (call_reply ts t.reply x)) (heard ++ h ∷ [])
call-more ts t heard h x true s e f g =
    let more : calls ts (heard ++ h ∷ []) ≡ calls ts heard ++ x ∷ [] = calls-more ts heard h (x ∷ []) e in
    let r : Repeated ts t.reply (calls ts heard) x = repeated ts t.reply (calls ts heard) x g in
    record {
      executed = s.executed ∙ executed-more ts heard h 0 0 (told-more ts heard h false f) (ap new_calls more ∙ r.number ∙ omega arith) refl;
      kept = s.kept ∙ sym r.kept ∙ ap (kept_in ts t.reply) (sym more);
    }
call-more ts t heard h x false s e f g =
    let more : calls ts (heard ++ h ∷ []) ≡ calls ts heard ++ x ∷ [] = calls-more ts heard h (x ∷ []) e in
    let n : New ts t.reply (calls ts heard) x = new ts t.reply (calls ts heard) x g in
    record {
      executed = ap one_more s.executed ∙ executed-next ts heard h 0 1 (told-more ts heard h false f) (ap new_calls more ∙ n.number) refl;
      kept = sym n.kept ∙ ap (kept_in ts t.reply) (sym more);
    }

effect-more : (ts : ℕ) (t : ResponderTable) (heard : List Heard) (h : Heard) (after : ResponderTable) → ResponderStandsFor ts t heard
    → Effect ts t (message_calls ts h.station_type h.message) (is_told ts h.message) after → ResponderStandsFor ts after (heard ++ h ∷ [])
effect-more ts t heard h after s (inl (e, f, g)) = subst (λ (x : ResponderTable). ResponderStandsFor ts x (heard ++ h ∷ [])) (sym g) (nothing-more ts t heard h s e f)
effect-more ts t heard h after s (inr (inl (e, f, g))) = subst (λ (x : ResponderTable). ResponderStandsFor ts x (heard ++ h ∷ [])) (sym g) (counted-more ts t heard h s e f)
effect-more ts t heard h after s (inr (inr (x, e, f, g))) =
    subst (λ (y : ResponderTable). ResponderStandsFor ts y (heard ++ h ∷ [])) (sym g)
    (call-more ts t heard h x (is_repeat t.kept x.frame) s e f (ap (λ (k : Option Kept). is_repeat k x.frame) (sym s.kept)))

-- ---- which effect a message has

call_effect : (ts : ℕ) (t : ResponderTable) (x : Call) (here : Bool)
    → Effect ts t (if here then x ∷ [] else []) false (if here then once t x.frame (call_reply ts t.reply x) else t)
call_effect ts t x true = inr (inr (x, refl, refl, refl))
call_effect ts t x false = inl (refl, refl, refl)

told_effect : (ts : ℕ) (t : ResponderTable) (here : Bool) → Effect ts t [] here (if here then counted t else t)
told_effect ts t true = inr (inl (refl, refl, refl))
told_effect ts t false = inl (refl, refl, refl)

asked_effect : (ts station_type : ℕ) (t : ResponderTable) (f : Fields) (asked : Asked)
    → Effect ts t (asked_calls ts station_type f asked) (is_told_by ts f asked) (after_asked t ts station_type f asked)
asked_effect ts station_type t f (Send Sda priority) = call_effect ts t (record { station_type = station_type; frame = f; service = Sda; priority = priority }) (address_in f.da == ts)
asked_effect ts station_type t f (Send Sdn priority) = told_effect ts t (address_in f.da == ts || address_in f.da == 127)
asked_effect ts station_type t f (Send Srd priority) = call_effect ts t (record { station_type = station_type; frame = f; service = Srd; priority = priority }) (address_in f.da == ts)
asked_effect ts station_type t f Status = inl (refl, refl, refl)
asked_effect ts station_type t f Unknown = inl (refl, refl, refl)

framed_effect : (ts station_type : ℕ) (t : ResponderTable) (f : Fields) (request : Bool)
    → Effect ts t (if request then asked_calls ts station_type f (asked_by (f.fc % 16)) else []) (if request then is_told_by ts f (asked_by (f.fc % 16)) else false)
    (if request then after_asked t ts station_type f (asked_by (f.fc % 16)) else t)
framed_effect ts station_type t f true = asked_effect ts station_type t f (asked_by (f.fc % 16))
framed_effect ts station_type t f false = inl (refl, refl, refl)

message_effect : (ts station_type : ℕ) (t : ResponderTable) (m : Message) → Effect ts t (message_calls ts station_type m) (is_told ts m) (after_message t ts station_type m)
message_effect ts station_type t (Framed f) = framed_effect ts station_type t f (has_bit f.fc 6)
message_effect ts station_type t Acknowledgement = inl (refl, refl, refl)
message_effect ts station_type t TokenPass = inl (refl, refl, refl)

pub heard-more : (ts station_type : ℕ) (t : ResponderTable) (heard : List Heard) (m : Message) → ResponderStandsFor ts t heard
    → ResponderStandsFor ts (after_message t ts station_type m) (heard ++ record { station_type = station_type; message = m } ∷ [])
heard-more ts station_type t heard m s = effect-more ts t heard (record { station_type = station_type; message = m }) _ s (message_effect ts station_type t m)
