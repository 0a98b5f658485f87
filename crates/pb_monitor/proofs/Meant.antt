-- What the judge makes of a burst is what it makes of the meaning of its telegram.
use Rattle.std.proofs.Common.{◌≡◌, ℕ, ◌+◌, Bool, true, false, if◌then◌else◌, not, ◌&&◌, ◌||◌, List, [], ◌∷◌, ◌++◌, refl, sym, ap, ◌∙◌, subst, Some, None}
use Rattle.std.specs.Prelude.{nat_lt}
use Rattle.pb_telegram.specs.declared.chars.RxChar.{RxChar}
use Rattle.pb_timers.specs.Timers.{Params}
use Rattle.law_turn.specs.Arrivals.{Arrival, arrival_of}
use Rattle.law_runs.specs.Initiators.{initiates}
use Rattle.pb_monitor.specs.declared.alarms.Classes.{Classes}
use Rattle.pb_monitor.specs.declared.meanings.Meaning.TheVariants as meaning
use Rattle.pb_monitor.specs.declared.states.State.{State}
use Rattle.pb_monitor.specs.Captures.{Burst}
use Rattle.pb_monitor.specs.Meanings.{is_none, initiator_of, meaning_of}
use Rattle.pb_monitor.specs.Judge.{live, judged, heard_at, touch, silence_before, behind_by, alarm_by, behind, behind_all, alarm_of}

pub alarm_meant : (p : Params) (slack : ℕ) (c : Classes) (since : ℕ) (j : State) (begin end : ℕ) (chars : List RxChar) (a : Arrival) → arrival_of chars ≡ a
    → alarm_by p slack c since j begin (meaning_of a) ≡ alarm_of p slack c since j (record { begin = begin; end = end; chars = chars })
alarm_meant p slack c since j begin end chars a e =
    subst (λ x. alarm_by p slack c since j begin (meaning_of x) ≡ alarm_of p slack c since j (record { begin = begin; end = end; chars = chars })) e
    (by (initiates (arrival_of chars)) (is_none (arrival_of chars)))
  where
    by : (i n : Bool) → alarm_by p slack c since j begin (if i then meaning.Initiator (initiator_of (arrival_of chars)) else if n then meaning.NoTelegram else meaning.Reply)
        ≡ (if i then judged p slack c since (silence_before p slack j begin) begin (initiator_of (arrival_of chars)) else None)
    by true n = refl
    by false true = refl
    by false false = refl

pub behind_meant : (p : Params) (slack : ℕ) (j : State) (begin end : ℕ) (chars : List RxChar) (a : Arrival) → arrival_of chars ≡ a
    → behind_by p slack j begin end (meaning_of a) ≡ behind p slack j (record { begin = begin; end = end; chars = chars })
behind_meant p slack j begin end chars a e =
    subst (λ x. behind_by p slack j begin end (meaning_of x) ≡ behind p slack j (record { begin = begin; end = end; chars = chars })) e
    (by (initiates (arrival_of chars)) (is_none (arrival_of chars)))
  where
    by : (i n : Bool) → behind_by p slack j begin end (if i then meaning.Initiator (initiator_of (arrival_of chars)) else if n then meaning.NoTelegram else meaning.Reply)
        ≡ record (silence_before p slack j begin) {
          last = if i then Some (heard_at end (initiator_of (arrival_of chars))) else if n then None else touch p slack begin j.last;
          quiet = end;
          lost = not i && (j.lost || nat_lt (j.quiet + live p slack) begin);
        }
    by true n = refl
    by false true = refl
    by false false = refl

-- one burst more
pub behind_more : (p : Params) (slack : ℕ) (j : State) (bs : List Burst) (b : Burst) → behind_all p slack j (bs ++ b ∷ []) ≡ behind p slack (behind_all p slack j bs) b
behind_more p slack j [] b = refl
behind_more p slack j (c ∷ bs) b = behind_more p slack (behind p slack j c) bs b

pub stands_for_more : (p : Params) (slack : ℕ) (j before : State) (bs : List Burst) (begin end : ℕ) (chars : List RxChar) (a : Arrival) → before ≡ behind_all p slack j bs → arrival_of chars ≡ a
    → behind_by p slack before begin end (meaning_of a) ≡ behind_all p slack j (bs ++ record { begin = begin; end = end; chars = chars } ∷ [])
stands_for_more p slack j before bs begin end chars a stands e =
    behind_meant p slack before begin end chars a e ∙ ap (λ s. behind p slack s (record { begin = begin; end = end; chars = chars })) stands
    ∙ sym (behind_more p slack j bs (record { begin = begin; end = end; chars = chars }))
