-- Traces that differ in what is in the air: an end that lies after the clock is another one after it. What a tap knows is the same.
use Rattle.std.proofs.Common.{◌≡◌, ℕ, ◌+◌, ◌<◌, ◌≤◌, ◌⊎◌, inl, inr, ⊎_elim, Bool, true, false, if◌then◌else◌, ◌==◌, ◌&&◌, ◌||◌, List, [], ◌∷◌, refl, sym, ap, subst, arith, Option, Some, None}
use Rattle.std.specs.Prelude.{slice_get, max, nat_lt}
use Rattle.std.specs.Option.{option_and_then}
use Rattle.std.proofs.lemmas.Bool.{ltb-false, eqb-true}
use Rattle.law_turn.specs.Spans.{Span}
use Rattle.law_model.specs.Trace.{Hit, Record, Entry, Sent, Noise}
use Rattle.law_model.specs.Medium.{part_after, is_unheard, reaches, sends_during, overlaps}
use Rattle.law_model.proofs.Cases.{by_test}
use Rattle.law_token.specs.Lists.{Each}
use Rattle.law_token.specs.Places.{heard_span, InitEnds, IsOwn}

-- ---- the entries

-- the same end, or both after now
abbrev pub EndsNear : ℕ → ℕ → ℕ → Type 0
EndsNear now m n = (m ≡ n) ⊎ ((now < m) × (now < n))

-- a record with other hits; where its tap may change what it sends, it may end earlier, after now
pub record NearRecord (now : ℕ) (S : ℕ → Type 0) (r x : Record) : Type 0 where
  pub hits : List Hit
  pub end : ℕ
  pub is : x ≡ record r { hits = hits; end = end }
  pub ends : (end ≡ r.end) ⊎ (S r.tap × (now < end) × (end ≤ r.end))

abbrev pub Near : ℕ → (ℕ → Type 0) → Entry → Entry → Type 0
Near now S (Noise a) (Noise b) = (a.begin ≡ b.begin) × (a.end ≤ b.end) × EndsNear now a.end b.end
Near now S (Noise a) (Sent x) = ⊥
Near now S (Sent r) (Noise b) = ⊥
Near now S (Sent r) (Sent x) = NearRecord now S r x

abbrev pub AllNear : ℕ → (ℕ → Type 0) → List Entry → List Entry → Type 0
AllNear now S [] [] = Unit {0}
AllNear now S [] (x ∷ xs) = ⊥
AllNear now S (e ∷ es) [] = ⊥
AllNear now S (e ∷ es) (x ∷ xs) = Near now S e x × AllNear now S es xs

pub record_ends : (now : ℕ) (S : ℕ → Type 0) (r : Record) (m : ℕ) → (m ≡ r.end) ⊎ (S r.tap × (now < m) × (m ≤ r.end)) → EndsNear now r.end m × (m ≤ r.end)
record_ends now S r m h = ⊎_elim (λ (a : m ≡ r.end). (inl (sym a), omega (arith, a))) (λ (b : S r.tap × (now < m) × (m ≤ r.end)). (inr (omega (arith, b.1, b.2), b.1), b.2)) h

pub near_self : (now : ℕ) (S : ℕ → Type 0) (e : Entry) → Near now S e e
near_self now S (Noise a) = (refl, omega arith, inl refl)
near_self now S (Sent r) = record { hits = r.hits; end = r.end; is = refl; ends = inl refl }

pub all_near_self : (now : ℕ) (S : ℕ → Type 0) (es : List Entry) → AllNear now S es es
all_near_self now S [] = tt
all_near_self now S (e ∷ es) = (near_self now S e, all_near_self now S es)

-- what holds of each entry of one holds of each of the other
pub each_near : (P Q : Entry → Type 0) (now : ℕ) (S : ℕ → Type 0) (es xs : List Entry) → ((e x : Entry) → Near now S e x → P e → Q x) → AllNear now S es xs → Each P es → Each Q xs
each_near P Q now S [] [] f a all = tt
each_near P Q now S [] (x ∷ xs) f a all = absurd a
each_near P Q now S (e ∷ es) [] f a all = absurd a
each_near P Q now S (e ∷ es) (x ∷ xs) f a all = (f e x a.0 all.0, each_near P Q now S es xs f a.1 all.1)

pub each_back : (P Q : Entry → Type 0) (now : ℕ) (S : ℕ → Type 0) (es xs : List Entry) → ((e x : Entry) → Near now S e x → Q x → P e) → AllNear now S es xs → Each Q xs → Each P es
each_back P Q now S [] [] f a all = tt
each_back P Q now S [] (x ∷ xs) f a all = absurd a
each_back P Q now S (e ∷ es) [] f a all = absurd a
each_back P Q now S (e ∷ es) (x ∷ xs) f a all = (f e x a.0 all.0, each_back P Q now S es xs f a.1 all.1)

-- ---- what a tap hears of them

abbrev pub SpanNear : ℕ → Option Span → Option Span → Type 0
SpanNear now None None = Unit {0}
SpanNear now None (Some y) = ⊥
SpanNear now (Some x) None = ⊥
SpanNear now (Some x) (Some y) = (x.begin ≡ y.begin) × EndsNear now x.end y.end

span_self : (now : ℕ) (o : Option Span) → SpanNear now o o
span_self now None = tt
span_self now (Some x) = (refl, inl refl)

part_near : (now since b m n : ℕ) → since ≤ now → EndsNear now m n → SpanNear now (part_after since (record { begin = b; end = m })) (part_after since (record { begin = b; end = n }))
part_near now since b m n began (inl same) = subst (λ z. SpanNear now (part_after since (record { begin = b; end = m })) (part_after since (record { begin = b; end = z }))) same (span_self now (part_after since (record { begin = b; end = m })))
part_near now since b m n began (inr later) =
    by_test (λ o. SpanNear now o (part_after since (record { begin = b; end = n }))) (nat_lt since m) (Some (record { begin = max b since; end = m })) None
    (λ _. by_test (λ o. SpanNear now (Some (record { begin = max b since; end = m })) o) (nat_lt since n) (Some (record { begin = max b since; end = n })) None
    (λ _. (refl, inr later)) (λ f. absurd (omega (arith, ltb-false since n f, later.1, began))))
    (λ f. absurd (omega (arith, ltb-false since m f, later.0, began)))

-- an entry to a tap is as another
pub record NearTo (now delay tap since : ℕ) (e x : Entry) : Type 0 where
  pub span : SpanNear now (heard_span delay tap since e) (heard_span delay tap since x)
  pub init : (q : ℕ) → InitEnds tap q e → InitEnds tap q x
  pub init_back : (q : ℕ) → InitEnds tap q x → InitEnds tap q e
  pub own : (own : Span) → IsOwn tap own e → IsOwn tap own x
  pub sends : (span : Span) → sends_during tap span e ≡ sends_during tap span x

near_sent : (now delay tap since : ℕ) (S : ℕ → Type 0) (r : Record) (h : List Hit) (m : ℕ) → since ≤ now → (S tap → ⊥) → (m ≡ r.end) ⊎ (S r.tap × (now < m) × (m ≤ r.end)) → NearTo now delay tap since (Sent r) (Sent (record r { hits = h; end = m }))
near_sent now delay tap since S r h m began other ends = record {
  span = hears (r.tap == tap || is_unheard (slice_get r.heard tap));
  init = λ q f mine ini. let g = f mine ini in omega (arith, g, le);
  init_back = λ q f mine ini. let g = f mine ini in let e = same mine in omega (arith, g, e);
  own = λ own f mine. subst (λ (z : ℕ). ((r.begin ≡ own.begin) × (z ≡ own.end)) ⊎ (z ≤ own.begin)) (sym (same mine)) (f mine);
  sends = λ span. during span (r.tap == tap) refl;
}
  where
    le : m ≤ r.end
    le = (record_ends now S r m ends).1

    same : r.tap ≡ tap → m ≡ r.end
    same mine = ⊎_elim (λ (a : m ≡ r.end). a) (λ (b : S r.tap × (now < m) × (m ≤ r.end)). absurd (other (subst S mine b.0))) ends

    hears : (b : Bool) → SpanNear now (option_and_then (part_after since) (if b then None else Some (reaches delay r))) (option_and_then (part_after since) (if b then None else Some (reaches delay (record r { hits = h; end = m }))))
    hears true = tt
    hears false = part_near now since (r.begin + delay) (r.end + delay) (m + delay) began
        (⊎_elim (λ (a : r.end ≡ m). inl (ap (λ n. n + delay) a)) (λ (b : (now < r.end) × (now < m)). inr (omega (arith, b.0), omega (arith, b.1))) (record_ends now S r m ends).0)

    during : (span : Span) (b : Bool) → (r.tap == tap) ≡ b → (b && overlaps (record { begin = r.begin; end = r.end }) span) ≡ (b && overlaps (record { begin = r.begin; end = m }) span)
    during span true e = ap (λ n. overlaps (record { begin = r.begin; end = n }) span) (sym (same (eqb-true r.tap tap e)))
    during span false e = refl

pub near_to : (now delay tap since : ℕ) (S : ℕ → Type 0) (e x : Entry) → since ≤ now → (S tap → ⊥) → Near now S e x → NearTo now delay tap since e x
near_to now delay tap since S (Noise a) (Noise b) began other h = record {
  span = subst (λ z. SpanNear now (part_after since a) (part_after since (record { begin = z; end = b.end }))) h.0 (part_near now since a.begin a.end b.end began h.2);
  init = λ q f. tt;
  init_back = λ q f. tt;
  own = λ own f. tt;
  sends = λ span. refl;
}
near_to now delay tap since S (Noise a) (Sent x) began other h = absurd h
near_to now delay tap since S (Sent r) (Noise b) began other h = absurd h
near_to now delay tap since S (Sent r) (Sent x) began other h = subst (λ z. NearTo now delay tap since (Sent r) (Sent z)) (sym h.is) (near_sent now delay tap since S r h.hits h.end began other h.ends)
