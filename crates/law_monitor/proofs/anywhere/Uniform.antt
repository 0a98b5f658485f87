-- A listener with the same delay from all taps is one somewhere on the line.
use Rattle.std.proofs.Common.{◌≡◌, ℕ, ◌+◌, ◌<◌, inl, inr, ⊎_elim, List, [], ◌∷◌, map, refl, sym, ap, ◌∙◌, subst, arith}
use Rattle.law_turn.specs.Spans.{Span}
use Rattle.law_model.specs.Trace.{Entry, Sent, Noise}
use Rattle.law_model.specs.Medium.{reaches_taps}
use Rattle.pb_monitor.specs.Captures.{Burst, All, Has, Fills, IsTold, IsApart, IsClear, AllClear, BeginsAt, IsSolid, IsOf, HearsFrom, Hears}
use Rattle.law_monitor.specs.Captures.{HearsAmid}
use Rattle.law_monitor.specs.Anywhere.{as_heard, TheSameDelayIsOne}

abbrev span_of : ℕ → ℕ → Span
span_of begin end = record { begin = begin; end = end }

same_span : (d : ℕ) (e : Entry) → reaches_taps d e ≡ reaches_taps 0 (as_heard (λ _. d) e)
same_span d (Noise span) = refl
same_span d (Sent r) = ap (λ n. span_of n (r.end + d)) (let a : r.begin + d ≡ r.begin + d + 0 = omega arith in a) ∙ ap (λ n. span_of (r.begin + d + 0) n) (let a : r.end + d ≡ r.end + d + 0 = omega arith in a)

all_heard : (X Y : Entry → Type 0) (d : ℕ) (es : List Entry) → ((e : Entry) → X e → Y (as_heard (λ _. d) e)) → All X es → All Y (map (as_heard (λ _. d)) es)
all_heard X Y d [] f a = tt
all_heard X Y d (e ∷ es) f a = (f e a.0, all_heard X Y d es f a.1)

all_said : (X Y : Entry → Type 0) (d : ℕ) (es : List Entry) → ((e : Entry) → Y (as_heard (λ _. d) e) → X e) → All Y (map (as_heard (λ _. d)) es) → All X es
all_said X Y d [] f a = tt
all_said X Y d (e ∷ es) f a = (f e a.0, all_said X Y d es f a.1)

has_heard : (X Y : Entry → Type 0) (d : ℕ) (es : List Entry) → ((e : Entry) → X e → Y (as_heard (λ _. d) e)) → Has X es → Has Y (map (as_heard (λ _. d)) es)
has_heard X Y d [] f h = absurd h
has_heard X Y d (e ∷ es) f h = ⊎_elim (λ (x : X e). inl (f e x)) (λ (t : Has X es). inr (has_heard X Y d es f t)) h

clear_heard : (d u v : ℕ) (es : List Entry) → AllClear d u v es → AllClear 0 u v (map (as_heard (λ _. d)) es)
clear_heard d u v es = all_heard (λ e. IsClear u v (reaches_taps d e)) (λ e. IsClear u v (reaches_taps 0 e)) d es (λ e. subst (IsClear u v) (same_span d e))

solid_heard : (d : ℕ) (es : List Entry) (b : Burst) → IsSolid d es b → IsSolid 0 (map (as_heard (λ _. d)) es) b
solid_heard d es b solid u v x y z clear = solid u v x y z (all_said (λ e. IsClear u v (reaches_taps d e)) (λ e. IsClear u v (reaches_taps 0 e)) d es (λ e. subst (IsClear u v) (sym (same_span d e))) clear)

fills_heard : (d : ℕ) (b : Burst) (e : Entry) → Fills d b e → Fills 0 b (as_heard (λ _. d) e)
fills_heard d b (Noise span) f = absurd f
fills_heard d b (Sent r) f = let x = f.0 in let y = f.1 in (omega (arith, x), omega (arith, y), f.2)

told_heard : (d : ℕ) (b : Burst) (e : Entry) → IsTold d b e → IsTold 0 b (as_heard (λ _. d) e)
told_heard d b e t = ⊎_elim (λ (f : Fills d b e). inl (fills_heard d b e f)) (λ (a : IsApart b (reaches_taps d e)). inr (subst (IsApart b) (same_span d e) a)) t

of_heard : (d since : ℕ) (es : List Entry) (b : Burst) → IsOf d since es b → IsOf 0 since (map (as_heard (λ _. d)) es) b
of_heard d since es b o = record {
  begins = ⊎_elim (λ (z : b.begin ≡ since). inl z)
      (λ (h : Has (BeginsAt d b.begin) es). inr (has_heard (BeginsAt d b.begin) (BeginsAt 0 b.begin) d es (λ e. subst (λ (s : Span). (s.begin ≡ b.begin) × (s.begin < s.end)) (same_span d e)) h)) o.begins;
  solid = solid_heard d es b o.solid;
  told = λ some. let t = o.told some in (has_heard (Fills d b) (Fills 0 b) d es (fills_heard d b) t.0, all_heard (IsTold d b) (IsTold 0 b) d es (told_heard d b) t.1);
}

from_heard : (d since : ℕ) (es : List Entry) (q : ℕ) (bs : List Burst) → HearsFrom d since es q bs → HearsFrom 0 since (map (as_heard (λ _. d)) es) q bs
from_heard d since es q [] h = tt
from_heard d since es q (b ∷ bs) h = (h.0, h.1, clear_heard d q b.begin es h.2, of_heard d since es b h.3, from_heard d since es b.end bs h.4)

pub uniform_anywhere : TheSameDelayIsOne
uniform_anywhere d since es bs h = ⊎_elim (λ (k : Hears d since es bs). inl (from_heard d since es since bs k)) (λ (k : HearsAmid d since es bs). inr (amid bs k)) h
  where
    amid : (bs : List Burst) → HearsAmid d since es bs → HearsAmid 0 since (map (as_heard (λ _. d)) es) bs
    amid [] k = absurd k
    amid (b ∷ bs) k = (k.0, k.1, k.2, solid_heard d es b k.3, from_heard d since es b.end bs k.4)
