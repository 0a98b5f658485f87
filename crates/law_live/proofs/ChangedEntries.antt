-- An event that changes entries, but not when they began, nor what was sent: a stop cuts what its tap has in the air, so that it ends later than the clock;
-- and noise lasts no shorter.
use Rattle.std.proofs.Common.{◌≡◌, ℕ, ◌+◌, ◌<◌, ◌≤◌, ◌⊎◌, inl, inr, ⊎_elim, Bool, true, false, ◌==◌, List, [], ◌∷◌, map, refl, sym, ap, ◌∙◌, subst, arith, Option, Some, None}
use Rattle.std.specs.Prelude.{IfSome}
use Rattle.std.proofs.lemmas.Bool.{eqb-true}
use Rattle.pb_telegram.specs.declared.chars.RxChar.TheVariants.{Good}
use Rattle.pb_timers.specs.Timers.{Params}
use Rattle.law_turn.specs.Arrivals.{arrival_of}
use Rattle.law_turn.specs.Stations.{Reply}
use Rattle.law_model.specs.Trace.{Hit, Record, Entry, Sent, Noise, cut_end, cut_at, noisy_until}
use Rattle.law_model.specs.Medium.{Tap, reaches, ends_between, entry_at, heard_by}
use Rattle.law_model.specs.Step.{with_hit, change_first}
use Rattle.law_model.proofs.Cases.{by_test}
use Rattle.law_runs.specs.Initiators.{initiates, is_initiator}
use Rattle.law_token.specs.Lists.{Each}
use Rattle.law_token.specs.Views.{view}
use Rattle.law_token.proofs.bus.Lists.{each_map}
use Rattle.law_token.proofs.air.StoppedTap.{cut_bound}
use Rattle.law_live.specs.NeverDead.{is_token_telegram, is_token_record}
use Rattle.law_live.specs.Flow.{IsCalmBy, OwnTokensBy, IsCalmFor, EndsBy, IsShort, RepliesBy, RequestsBy, FlowTap}

-- what an entry becomes; only telegrams of some taps are cut
abbrev pub Changes : (IsCut : ℕ → Type 0) → ℕ → Entry → Entry → Type 0
Changes IsCut now (Noise a) (Noise b) = a.end ≤ b.end
Changes IsCut now (Noise a) (Sent x) = ⊥
Changes IsCut now (Sent r) (Noise b) = ⊥
Changes IsCut now (Sent r) (Sent x) =
    (x.begin ≡ r.begin) × (x.octets ≡ r.octets) × (x.tap ≡ r.tap) × (x.end ≤ r.end) × ((x.end ≡ r.end) ⊎ ((now < x.end) × IsCut r.tap))

-- what all entries become, one by one
abbrev pub EachChanges : (IsCut : ℕ → Type 0) → ℕ → List Entry → List Entry → Type 0
EachChanges IsCut now [] [] = Unit {0}
EachChanges IsCut now [] (x ∷ xs) = ⊥
EachChanges IsCut now (e ∷ es) [] = ⊥
EachChanges IsCut now (e ∷ es) (x ∷ xs) = Changes IsCut now e x × EachChanges IsCut now es xs

-- nothing is cut, or what one tap sends
abbrev pub NoneIsCut : ℕ → Type 0
NoneIsCut tap = ⊥

-- ---- what holds before and after

-- what holds of the new entries held of the old ones, or something has been cut
each_back : (IsCut : ℕ → Type 0) (now : ℕ) (P : Entry → Type 0) (X : Type 0) (es xs : List Entry) → ((e x : Entry) → Changes IsCut now e x → P x → P e ⊎ X) → EachChanges IsCut now es xs
    → Each P xs → Each P es ⊎ X
each_back IsCut now P X [] [] f s all = inl tt
each_back IsCut now P X [] (x ∷ xs) f s all = absurd s
each_back IsCut now P X (e ∷ es) [] f s all = absurd s
each_back IsCut now P X (e ∷ es) (x ∷ xs) f s all =
    ⊎_elim
    (λ (a : P e). ⊎_elim (λ (b : Each P es). inl (a, b)) (λ (b : X). inr b) (each_back IsCut now P X es xs f s.1 all.1))
    (λ (a : X). inr a)
    (f e x s.0 all.0)

-- what holds of the old entries holds of the new ones
each_forth : (IsCut : ℕ → Type 0) (now : ℕ) (P : Entry → Type 0) (es xs : List Entry) → ((e x : Entry) → Changes IsCut now e x → P e → P x) → EachChanges IsCut now es xs
    → Each P es → Each P xs
each_forth IsCut now P [] [] f s all = tt
each_forth IsCut now P [] (x ∷ xs) f s all = absurd s
each_forth IsCut now P (e ∷ es) [] f s all = absurd s
each_forth IsCut now P (e ∷ es) (x ∷ xs) f s all = (f e x s.0 all.0, each_forth IsCut now P es xs f s.1 all.1)

-- the octets say what is a token
same_pass : (r x : Record) → x.octets ≡ r.octets → is_token_record x ≡ is_token_record r
same_pass r x e = ap (λ os. is_token_telegram (arrival_of (map Good os))) e

-- and what is an initiator telegram
same_init : (r x : Record) → x.octets ≡ r.octets → is_initiator x ≡ is_initiator r
same_init r x e = ap (λ os. initiates (arrival_of (map Good os))) e

-- an end by a moment was one before, or the moment is later than the clock
end_back : (IsCut : ℕ → Type 0) (now q : ℕ) (r x : Record) → Changes IsCut now (Sent r) (Sent x) → (b : Bool) → (b ≡ true → x.end ≤ q) → (b ≡ true → r.end ≤ q) ⊎ (now < q)
end_back IsCut now q r x s false c = inl (λ e. absurd (let wrong : false ≡ true = e in cc))
end_back IsCut now q r x s true c =
    let h = c refl in ⊎_elim (λ (a : x.end ≡ r.end). inl (λ _. omega (arith, a, h))) (λ (a : (now < x.end) × IsCut r.tap). let lt = a.0 in inr (omega (arith, lt, h))) s.4

-- a token or noise that is over by a moment was so before, or the moment is later than the clock
calm_back : (IsCut : ℕ → Type 0) (now q : ℕ) (e x : Entry) → Changes IsCut now e x → IsCalmBy q x → IsCalmBy q e ⊎ (now < q)
calm_back IsCut now q (Noise a) (Noise b) s c = inl (omega (arith, s, c))
calm_back IsCut now q (Noise a) (Sent x) s c = absurd s
calm_back IsCut now q (Sent r) (Noise b) s c = absurd s
calm_back IsCut now q (Sent r) (Sent x) s c = end_back IsCut now q r x s (is_token_record r) (λ pass. c (same_pass r x s.1 ∙ pass))

-- so with all of them
pub calm_before : (IsCut : ℕ → Type 0) (now q : ℕ) (es xs : List Entry) → EachChanges IsCut now es xs → Each (IsCalmBy q) xs → Each (IsCalmBy q) es ⊎ (now < q)
calm_before IsCut now q es xs s all = each_back IsCut now (IsCalmBy q) (now < q) es xs (λ e x. calm_back IsCut now q e x) s all

-- a tap that is not cut has its own tokens as before
own_back : (IsCut : ℕ → Type 0) (now k q : ℕ) (e x : Entry) → (IsCut k → ⊥) → Changes IsCut now e x → OwnTokensBy k q x → OwnTokensBy k q e ⊎ ⊥
own_back IsCut now k q (Noise a) (Noise b) not_cut s c = inl tt
own_back IsCut now k q (Noise a) (Sent x) not_cut s c = absurd s
own_back IsCut now k q (Sent r) (Noise b) not_cut s c = absurd s
own_back IsCut now k q (Sent r) (Sent x) not_cut s c = inl (λ by pass.
    let h = c (s.2 ∙ by) (same_pass r x s.1 ∙ pass) in
    ⊎_elim (λ (a : x.end ≡ r.end). omega (arith, a, h)) (λ (a : (now < x.end) × IsCut r.tap). absurd (not_cut (subst IsCut by a.1))) s.4)

-- a tap that isn't cut has its tokens as before
own_before : (IsCut : ℕ → Type 0) (now k q : ℕ) (es xs : List Entry) → (IsCut k → ⊥) → EachChanges IsCut now es xs → Each (OwnTokensBy k q) xs → Each (OwnTokensBy k q) es
own_before IsCut now k q es xs not_cut s all =
    ⊎_elim (λ (a : Each (OwnTokensBy k q) es). a) (λ (a : ⊥). absurd a) (each_back IsCut now (OwnTokensBy k q) ⊥ es xs (λ e x. own_back IsCut now k q e x not_cut) s all)

-- what is over by a moment, a tap's own tokens are
pub calm_own : (k q : ℕ) (e : Entry) → IsCalmBy q e → OwnTokensBy k q e
calm_own k q (Noise a) c = tt
calm_own k q (Sent r) c = λ by pass. c pass

-- what may give a tap the token was over by a moment as it is now
calm_for_before : (IsCut : ℕ → Type 0) (now k q : ℕ) (es xs : List Entry) → (IsCut k → ⊥) → EachChanges IsCut now es xs → IsCalmFor now k q xs → IsCalmFor now k q es
calm_for_before IsCut now k q es xs not_cut s calm =
    ⊎_elim
    (λ (all : Each (IsCalmBy q) xs). ⊎_elim (λ (a : Each (IsCalmBy q) es). inl a)
    (λ (a : now < q). inr (omega (arith, a), own_before IsCut now k q es xs not_cut s (each_map (IsCalmBy q) (OwnTokensBy k q) xs (λ e c. calm_own k q e c) all)))
    (calm_before IsCut now q es xs s all))
    (λ (own : (now ≤ q) × Each (OwnTokensBy k q) xs). inr (own.0, own_before IsCut now k q es xs not_cut s own.1))
    calm

-- an initiator telegram that is over by a moment was so before, or the moment is later than the clock
ends_back : (IsCut : ℕ → Type 0) (now z : ℕ) (e x : Entry) → Changes IsCut now e x → EndsBy z x → EndsBy z e ⊎ (now < z)
ends_back IsCut now z (Noise a) (Noise b) s c = inl tt
ends_back IsCut now z (Noise a) (Sent x) s c = absurd s
ends_back IsCut now z (Sent r) (Noise b) s c = absurd s
ends_back IsCut now z (Sent r) (Sent x) s c = end_back IsCut now z r x s (is_initiator r) (λ init. c (same_init r x s.1 ∙ init))

-- so with all of them
pub ends_before : (IsCut : ℕ → Type 0) (now z : ℕ) (es xs : List Entry) → EachChanges IsCut now es xs → Each (EndsBy z) xs → Each (EndsBy z) es ⊎ (now < z)
ends_before IsCut now z es xs s all = each_back IsCut now (EndsBy z) (now < z) es xs (λ e x. ends_back IsCut now z e x) s all

-- no telegram becomes longer
short_forth : (IsCut : ℕ → Type 0) (now : ℕ) (e x : Entry) → Changes IsCut now e x → IsShort e → IsShort x
short_forth IsCut now (Noise a) (Noise b) s c = tt
short_forth IsCut now (Noise a) (Sent x) s c = absurd s
short_forth IsCut now (Sent r) (Noise b) s c = absurd s
short_forth IsCut now (Sent r) (Sent x) s c = let a = s.0 in let b = s.3 in omega (arith, c, a, b)

-- so none of them
pub short_after : (IsCut : ℕ → Type 0) (now : ℕ) (es xs : List Entry) → EachChanges IsCut now es xs → Each IsShort es → Each IsShort xs
short_after IsCut now es xs s all = each_forth IsCut now IsShort es xs (λ e x. short_forth IsCut now e x) s all

-- a reply began when it began
replies_forth : (IsCut : ℕ → Type 0) (now b : ℕ) (e x : Entry) → Changes IsCut now e x → RepliesBy b e → RepliesBy b x
replies_forth IsCut now b (Noise a) (Noise y) s c = tt
replies_forth IsCut now b (Noise a) (Sent x) s c = absurd s
replies_forth IsCut now b (Sent r) (Noise y) s c = absurd s
replies_forth IsCut now b (Sent r) (Sent x) s c = λ f. let h = c (sym (same_init r x s.1) ∙ f) in let a = s.0 in omega (arith, h, a)

-- so all of them
pub replies_after : (IsCut : ℕ → Type 0) (now b : ℕ) (es xs : List Entry) → EachChanges IsCut now es xs → Each (RepliesBy b) es → Each (RepliesBy b) xs
replies_after IsCut now b es xs s all = each_forth IsCut now (RepliesBy b) es xs (λ e x. replies_forth IsCut now b e x) s all

-- a request began when it began
requests_forth : (IsCut : ℕ → Type 0) (now time b : ℕ) (e x : Entry) → Changes IsCut now e x → RequestsBy time b e → RequestsBy time b x
requests_forth IsCut now time b (Noise a) (Noise y) s c = tt
requests_forth IsCut now time b (Noise a) (Sent x) s c = absurd s
requests_forth IsCut now time b (Sent r) (Noise y) s c = absurd s
requests_forth IsCut now time b (Sent r) (Sent x) s c = λ f g. let h = c (sym (same_init r x s.1) ∙ f) (sym (same_pass r x s.1) ∙ g) in let a = s.0 in omega (arith, h, a)

-- so all of them
pub requests_after : (IsCut : ℕ → Type 0) (now time b : ℕ) (es xs : List Entry) → EachChanges IsCut now es xs → Each (RequestsBy time b) es → Each (RequestsBy time b) xs
requests_after IsCut now time b es xs s all = each_forth IsCut now (RequestsBy time b) es xs (λ e x. requests_forth IsCut now time b e x) s all

-- ---- a tap

-- a reply that is due by a moment is due by a later one
pub due_weaker : (o : Option Reply) (a b : ℕ) → a ≤ b → IfSome o (λ r. r.ready ≤ a) → IfSome o (λ r. r.ready ≤ b)
due_weaker None a b le h = tt
due_weaker (Some r) a b le h = omega (arith, h, le)

-- one that isn't cut keeps within its time
pub tap_after : (IsCut : ℕ → Type 0) (p : Params) (now : ℕ) (es xs : List Entry) (k : ℕ) (t : Tap) → (IsCut k → ⊥) → EachChanges IsCut now es xs → FlowTap p now es k t → FlowTap p now xs k t
tap_after IsCut p now es xs k t not_cut s f = record {
  spends = λ q calm. f.spends q (calm_for_before IsCut now k q es xs not_cut s calm);
  waits = f.waits;
  prompt = λ z ends. ⊎_elim (λ (a : Each (EndsBy z) es). f.prompt z a) (λ (a : now < z). due_weaker (view p t).reply (now + p.tsdr) (z + p.ttd + p.tsdr) (omega (arith, a)) f.waits) (ends_before IsCut now z es xs s ends);
}

-- ---- the events

-- an entry may stay as it is
same_entry : (IsCut : ℕ → Type 0) (now : ℕ) (e : Entry) → Changes IsCut now e e
same_entry IsCut now (Noise a) = omega arith
same_entry IsCut now (Sent r) = (refl, refl, refl, omega arith, inl refl)

-- so may all
same_entries : (IsCut : ℕ → Type 0) (now : ℕ) (es : List Entry) → EachChanges IsCut now es es
same_entries IsCut now [] = tt
same_entries IsCut now (e ∷ es) = (same_entry IsCut now e, same_entries IsCut now es)

-- all entries change
pub all_change : (IsCut : ℕ → Type 0) (now : ℕ) (f : Entry → Entry) (es : List Entry) → ((e : Entry) → Changes IsCut now e (f e)) → EachChanges IsCut now es (map f es)
all_change IsCut now f [] h = tt
all_change IsCut now f (e ∷ es) h = (h e, all_change IsCut now f es h)

-- the first entry of a kind changes
pub first_changes : (IsCut : ℕ → Type 0) (now : ℕ) (test : Entry → Bool) (f : Entry → Entry) (es : List Entry) → ((e : Entry) → Changes IsCut now e (f e))
    → EachChanges IsCut now es (change_first test f es)
first_changes IsCut now test f [] h = tt
first_changes IsCut now test f (e ∷ es) h =
    by_test (λ xs. EachChanges IsCut now (e ∷ es) xs) (test e) (f e ∷ es) (e ∷ change_first test f es) (λ _. (h e, same_entries IsCut now es)) (λ _. (same_entry IsCut now e, first_changes IsCut now test f es h))

-- damage changes no moment
pub hit_changes : (now : ℕ) (hit : Hit) (e : Entry) → Changes NoneIsCut now e (with_hit hit e)
hit_changes now hit (Noise a) = omega arith
hit_changes now hit (Sent r) = (refl, refl, refl, omega arith, inl refl)

-- noise that goes on lasts no shorter
pub noise_changes : (now m : ℕ) (e : Entry) → Changes NoneIsCut now e (noisy_until m e)
noise_changes now m (Noise a) = omega arith
noise_changes now m (Sent r) = (refl, refl, refl, omega arith, inl refl)

-- a stop cuts what its tap has in the air
pub cut_changes : (now tap : ℕ) (e : Entry) → Changes (λ k. k ≡ tap) now e (cut_at now tap e)
cut_changes now tap (Noise a) = omega arith
cut_changes now tap (Sent r) =
    by_test (λ (x : Record). Changes (λ k. k ≡ tap) now (Sent r) (Sent x)) (r.tap == tap) (record r { end = cut_end now r }) r
    (λ is. (refl, refl, refl, omega arith, ⊎_elim (λ (a : cut_end now r ≡ r.end). inl a) (λ (b : now < cut_end now r). inr (b, eqb-true r.tap tap is)) (cut_bound now r))) (λ _. (refl, refl, refl, omega arith, inl refl))

-- time that passes adds how a telegram was heard
pub pass_changes : (now delay : ℕ) (taps : List Tap) (trace : List Entry) (t u : ℕ) (e : Entry) → Changes NoneIsCut now e (entry_at delay taps trace t u e)
pass_changes now delay taps trace t u (Noise a) = omega arith
pass_changes now delay taps trace t u (Sent r) =
    by_test (λ (e : Entry). Changes NoneIsCut now (Sent r) e) (ends_between t u (reaches delay r)) (Sent (record r { heard = heard_by delay trace r 0 taps r.heard })) (Sent r)
    (λ _. (refl, refl, refl, omega arith, inl refl)) (λ _. (refl, refl, refl, omega arith, inl refl))
