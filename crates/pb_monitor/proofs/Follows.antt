-- The last initiator telegram that a listener knows is the last one of the trace, or one that it has not heard yet comes behind it.
use Rattle.std.proofs.Common.{◌≡◌, ℕ, ◌+◌, ◌<◌, ◌≤◌, ◌⊎◌, inl, inr, ⊎_elim, Bool, true, false, if◌then◌else◌, List, [], ◌∷◌, refl, sym, ap, ◌∙◌, subst, arith, Option, Some, None}
use Rattle.law_turn.specs.Arrivals.{arrival_of}
use Rattle.law_model.specs.Trace.{Record, Entry, Sent, Noise, entry_begin}
use Rattle.law_runs.specs.Initiators.{initiates, is_initiator, later_record}
use Rattle.law_runs.specs.Judging.{IsOrderedFrom}
use Rattle.pb_monitor.specs.Captures.{Burst, All, Has, Fills, IsTold}

-- the record before an initiator telegram is one that the listener knows, or it has not reached it by a moment
abbrev pub IsLast : (delay q : ℕ) → (Record → Type 0) → Option Record → Type 0
IsLast delay q Known None = ⊥
IsLast delay q Known (Some w) = Known w ⊎ (q ≤ w.begin + delay)

-- so it is for each initiator telegram of some entries that has not reached the listener by then
abbrev pub Follows : (delay q : ℕ) → (Record → Type 0) → Option Record → List Entry → Type 0
Follows delay q Known last [] = Unit {0}
Follows delay q Known last (Noise span ∷ es) = Follows delay q Known last es
Follows delay q Known last (Sent r ∷ es) = (is_initiator r ≡ true → q ≤ r.begin + delay → IsLast delay q Known last) × Follows delay q Known (later_record last r) es

-- what fills a burst begins with it: no earlier than what comes before
filler_late : (delay m : ℕ) (b : Burst) (es : List Entry) → IsOrderedFrom m es → Has (Fills delay b) es → m + delay ≤ b.begin
filler_late delay m b [] o h = absurd h
filler_late delay m b (e ∷ es) o h = ⊎_elim (λ (f : Fills delay b e). here e f o.0) (λ (t : Has (Fills delay b) es). let l = filler_late delay (entry_begin e) b es o.2 t in let z = o.0 in omega (arith, l, z)) h
  where
    here : (e : Entry) → Fills delay b e → m ≤ entry_begin e → m + delay ≤ b.begin
    here (Noise span) f z = absurd f
    here (Sent r) f z = let g = f.0 in omega (arith, g, z)

-- one that fills a burst is known
abbrev pub Knowing : (delay : ℕ) → Burst → (Record → Type 0) → Entry → Type 0
Knowing delay b Known (Noise span) = Unit {0}
Knowing delay b Known (Sent x) = Fills delay b (Sent x) → Known x

-- behind a telegram that fills a burst
behind_it : (delay m : ℕ) (b : Burst) (Known : Record → Type 0) (w : Record) (es : List Entry) → Knowing delay b Known (Sent w) → All (Knowing delay b Known) es → b.begin ≤ m + delay → m ≤ w.begin → w.begin < w.end
    → IsTold delay b (Sent w) → IsOrderedFrom m es → All (IsTold delay b) es → Follows delay b.end Known (Some w) es
behind_it delay m b Known w [] known all_known late after some told order all = tt
behind_it delay m b Known w (Noise span ∷ es) known all_known late after some told order all =
    behind_it delay m b Known w es known all_known.1 late after some told (lower es order.2) all.1
  where
    lower : (es : List Entry) → IsOrderedFrom span.begin es → IsOrderedFrom m es
    lower [] o = tt
    lower (e ∷ es) o = (let a = o.0 in let c = order.0 in omega (arith, a, c), o.1, o.2)
behind_it delay m b Known w (Sent y ∷ es) known all_known late after some told order all =
    (λ init reached. is_last, rest (is_initiator y) refl (λ x k from ends t. behind_it delay m b Known x es k all_known.1 late from ends t (lower es order.2) all.1))
  where
    is_last : Known w ⊎ (b.end ≤ w.begin + delay)
    is_last = ⊎_elim (λ (f : Fills delay b (Sent w)). inl (known f))
        (λ (apart : (w.end + delay ≤ b.begin) ⊎ (b.end ≤ w.begin + delay)). ⊎_elim (λ (early : w.end + delay ≤ b.begin). absurd (omega (arith, early, late, after, some))) (λ (l : b.end ≤ w.begin + delay). inr l) apart) told

    lower : (es : List Entry) → IsOrderedFrom y.begin es → IsOrderedFrom m es
    lower [] o = tt
    lower (e ∷ es) o = (let a = o.0 in let c = order.0 in omega (arith, a, c), o.1, o.2)

    rest : (z : Bool) → is_initiator y ≡ z → ((x : Record) → Knowing delay b Known (Sent x) → m ≤ x.begin → x.begin < x.end → IsTold delay b (Sent x) → Follows delay b.end Known (Some x) es) → Follows delay b.end Known (if z then Some y else Some w) es
    rest true e rec = rec y all_known.0 order.0 order.1 all.0
    rest false e rec = rec w known after some told

-- Once a burst that is an initiator telegram is heard, that is the last one.
pub follows_it : (delay m : ℕ) (b : Burst) (Known : Record → Type 0) (last : Option Record) (es : List Entry) → All (Knowing delay b Known) es → initiates (arrival_of b.chars) ≡ true → b.begin < b.end
    → IsOrderedFrom m es → All (IsTold delay b) es → Has (Fills delay b) es → Follows delay b.end Known last es
follows_it delay m b Known last [] known init some order all here = tt
follows_it delay m b Known last (Noise span ∷ es) known init some order all here =
    ⊎_elim (λ (f : Fills delay b (Noise span)). absurd f) (λ (t : Has (Fills delay b) es). follows_it delay span.begin b Known last es known.1 init some order.2 all.1 t) here
follows_it delay m b Known last (Sent r ∷ es) known init some order all here =
    ⊎_elim
    (λ (f : Fills delay b (Sent r)). (
      λ _ reached. absurd (let g = f.0 in omega (arith, g, reached, some)),
      subst (λ z. Follows delay b.end Known (if z then Some r else last) es) (sym (ap initiates (sym f.2) ∙ init))
          (behind_it delay r.begin b Known r es known.0 known.1 (let g = f.0 in omega (arith, g)) (omega arith) order.1 (inl f) order.2 all.1),
    ))
    (λ (t : Has (Fills delay b) es). (
      λ _ reached. absurd (let l = filler_late delay r.begin b es order.2 t in omega (arith, l, reached, some)),
      follows_it delay r.begin b Known (later_record last r) es known.1 init some order.2 all.1 t,
    )) here
