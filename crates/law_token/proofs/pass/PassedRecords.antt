-- The records of the trace after time has passed.
use Rattle.std.proofs.Common.{◌≡◌, ℕ, zero, suc, ◌+◌, ◌<◌, ◌≤◌, ◌⊎◌, inl, inr, ⊎_elim, Bool, true, false, if◌then◌else◌, not, ◌==◌, ◌&&◌, List, [], ◌∷◌, ◌++◌, length, map, refl, sym, ap, ◌∙◌, subst, arith, Option, Some, None}
use Rattle.std.specs.Prelude.{slice_get, nat_lt, nat_le}
use Rattle.std.specs.List.{list_any, list_all}
use Rattle.std.specs.Option.{option_map}
use Rattle.std.proofs.lemmas.Bool.{ltb-true, leb-true, and_parts, cases_eq}
use Rattle.std.proofs.lemmas.Option.{same_Some}
use Rattle.pb_telegram.specs.Faults.{is_bad}
use Rattle.pb_telegram.specs.declared.chars.RxChar.{RxChar}
use Rattle.pb_timers.specs.Timers.{Params}
use Rattle.law_turn.specs.Spans.{Span}
use Rattle.law_model.specs.Trace.{Heard, Own, Whole, Damaged, Unheard, Pending, Record, Entry, Sent, Noise, characters_at}
use Rattle.law_model.specs.Medium.{Tap, reaches, is_whole_at, fills_burst, heard_in_the_end, heard_by, ends_between, entry_at}
use Rattle.law_model.specs.Step.{told}
use Rattle.law_model.proofs.Cases.{by_test}
use Rattle.law_model.proofs.WholeTelegrams.{fills_alone}
use Rattle.law_runs.specs.Legality.{is_whole, address_at}
use Rattle.law_runs.specs.Premises.{Waited, has_namesakes}
use Rattle.law_token.specs.Lists.{Each, In}
use Rattle.law_token.specs.Entries.{ComesBefore, EndedBefore, Origin, RecordHolds, EntryHolds, IsAnother, AllOthers, SpeakerHolds, SpeaksOk}
use Rattle.law_token.proofs.bus.Lists.{each_map, each_mapped, each_unmapped}
use Rattle.law_token.proofs.pass.Brings.{relabel, relabelled}
use Rattle.law_token.proofs.pass.AllTaps.{Before, told_at, unheard_by}
use Rattle.law_token.proofs.bus.Claims.{one_address}
use Rattle.law_token.proofs.air.NewNoise.{any_more}
use Rattle.law_token.proofs.whole.Stays.{told_specs}

-- ---- what becomes of a telegram that ends

record EndsWhole (delay : ℕ) (trace : List Entry) (r : Record) (n i : ℕ) (ts : List Tap) : Type 0 where
  t : Tap
  here : slice_get ts i ≡ Some t
  whole : is_whole_at delay n t trace r ≡ true

whole_or : (b : Bool) (h : Heard) → is_whole (Some (heard_in_the_end b h)) ≡ true → (is_whole (Some h) ≡ true) ⊎ (b ≡ true)
whole_or true h e = inr refl
whole_or false Whole e = inl refl
whole_or false Own e = absurd cc
whole_or false Damaged e = absurd cc
whole_or false Unheard e = absurd cc
whole_or false Pending e = absurd cc

-- what is whole in the end was it, or has become it
whole_from : (delay : ℕ) (trace : List Entry) (r : Record) (k n i : ℕ) (ts : List Tap) (hs : List Heard) → n ≡ k + i → is_whole (slice_get (heard_by delay trace r k ts hs) i) ≡ true
    → (is_whole (slice_get hs i) ≡ true) ⊎ EndsWhole delay trace r n i ts
whole_from delay trace r k n i [] hs e w = inl w
whole_from delay trace r k n i (t ∷ ts) [] e w = inl w
whole_from delay trace r k n zero (t ∷ ts) (h ∷ hs) e w =
    ⊎_elim (λ (a : is_whole (Some h) ≡ true). inl a)
    (λ (b : is_whole_at delay k t trace r ≡ true). inr (record { t = t; here = refl; whole = ap (λ (z : ℕ). is_whole_at delay z t trace r) (let z : n ≡ k = omega (arith, e) in z) ∙ b }))
    (whole_or (is_whole_at delay k t trace r) h w)
whole_from delay trace r k n (suc i) (t ∷ ts) (h ∷ hs) e w =
    ⊎_elim (λ (a : is_whole (slice_get hs i) ≡ true). inl a) (λ (b : EndsWhole delay trace r n i ts). inr (record { t = b.t; here = b.here; whole = b.whole }))
    (whole_from delay trace r (k + 1) n i ts hs (omega (arith, e)) w)

record WholeParts (delay tap : ℕ) (t : Tap) (trace : List Entry) (r : Record) : Type 0 where
  runs : t.running ≡ true
  another : r.tap ≡ tap → ⊥

whole_parts : (delay tap : ℕ) (t : Tap) (trace : List Entry) (r : Record) → is_whole_at delay tap t trace r ≡ true → WholeParts delay tap t trace r
whole_parts delay tap t trace r w =
    let a = and_parts ((t.running && fills_burst delay tap t trace r) && length (characters_at tap r) == length r.octets) (list_all (λ (char : RxChar). not (is_bad char)) (characters_at tap r)) w in
    let b = and_parts (t.running && fills_burst delay tap t trace r) (length (characters_at tap r) == length r.octets) a.0 in
    let c = and_parts t.running (fills_burst delay tap t trace r) b.0 in
    record { runs = c.0; another = (fills_alone delay tap t trace r c.1).another }

-- ---- the taps

pub specs_told : (delay : ℕ) (trace : List Entry) (from to k : ℕ) (ts : List Tap) → map (λ z. z.spec) (told delay trace from to k ts) ≡ map (λ z. z.spec) ts
specs_told = told_specs

-- ---- the entries

pub entry_is : (delay : ℕ) (taps : List Tap) (trace : List Entry) (now to : ℕ) (r : Record) → entry_at delay taps trace now to (Sent r) ≡ Sent (relabel delay taps trace now to r)
entry_is delay taps trace now to r = by_test (λ e. e ≡ Sent (relabel delay taps trace now to r)) (ends_between now to (reaches delay r)) (Sent (relabelled delay taps trace r)) (Sent r)
    (λ e. ap (λ b. Sent (if b then relabelled delay taps trace r else r)) (sym e)) (λ e. ap (λ b. Sent (if b then relabelled delay taps trace r else r)) (sym e))

-- only what it was to the taps differs
abbrev pub SameSending : Record → Record → Type 0
SameSending r x = (r.tap ≡ x.tap) × (r.octets ≡ x.octets) × (r.begin ≡ x.begin) × (r.end ≡ x.end)

pub same_sending : (delay : ℕ) (taps : List Tap) (trace : List Entry) (now to : ℕ) (r : Record) → SameSending (relabel delay taps trace now to r) r
same_sending delay taps trace now to r = by_test (λ x. SameSending x r) (ends_between now to (reaches delay r)) (relabelled delay taps trace r) r (λ _. (refl, refl, refl, refl)) (λ _. (refl, refl, refl, refl))

ended_back : (delay : ℕ) (taps : List Tap) (trace : List Entry) (now to tap b q : ℕ) (e : Entry) → EndedBefore delay tap b q (entry_at delay taps trace now to e) → EndedBefore delay tap b q e
ended_back delay taps trace now to tap b q (Noise span) h = h
ended_back delay taps trace now to tap b q (Sent r) h =
    by_test (λ e. EndedBefore delay tap b q e → EndedBefore delay tap b q (Sent r)) (ends_between now to (reaches delay r)) (Sent (relabelled delay taps trace r)) (Sent r) (λ _ g. g) (λ _ g. g) h

origin_pass : (p : Params) (taps : List Tap) (trace : List Entry) (now to : ℕ) (new old : List Waited) (x : Record) → Origin p trace old x → Origin p (map (entry_at p.ttd taps trace now to) trace) (new ++ old) x
origin_pass p taps trace now to new old x o =
    ⊎_elim (λ (w : list_any (λ w. (w.tap == x.tap) && nat_le x.begin w.moment) old ≡ true). inl (any_more (λ w. (w.tap == x.tap) && nat_le x.begin w.moment) new old w))
    (λ (f : (q : ℕ) → Each (EndedBefore p.ttd x.tap x.begin q) trace → x.begin ≤ q + (p.tsl + p.lag)).
    inr (λ q all. f q (each_map (λ e. EndedBefore p.ttd x.tap x.begin q (entry_at p.ttd taps trace now to e)) (EndedBefore p.ttd x.tap x.begin q) trace
    (ended_back p.ttd taps trace now to x.tap x.begin q) (each_unmapped (EndedBefore p.ttd x.tap x.begin q) (entry_at p.ttd taps trace now to) trace all)))) o

before_relabel : (delay : ℕ) (taps : List Tap) (trace : List Entry) (now to : ℕ) (last : Option Record) (x : Record) → ComesBefore delay last x → ComesBefore delay (option_map (relabel delay taps trace now to) last) x
before_relabel delay taps trace now to None x c = c
before_relabel delay taps trace now to (Some l) x c =
    by_test (λ z. ComesBefore delay (Some z) x) (ends_between now to (reaches delay l)) (relabelled delay taps trace l) l (λ _. c) (λ _. c)

before_heard : (delay : ℕ) (last : Option Record) (x : Record) (hs : List Heard) → ComesBefore delay last x → ComesBefore delay last (record x { heard = hs })
before_heard delay None x hs c = c
before_heard delay (Some l) x hs c = c

same_address : (delay : ℕ) (trace : List Entry) (from to n : ℕ) (ts : List Tap) (i : ℕ) (x : Tap) (b : Before delay trace from to n ts i x) → x.spec.address ≡ b.t.spec.address
same_address delay trace from to n ts i x b = ap (λ (z : Tap). z.spec.address) b.is

ended_by : (now to : ℕ) (s : Span) → ends_between now to s ≡ true → (now < s.end) × (s.end ≤ to)
ended_by now to s e = let a = and_parts (nat_lt now s.end) (nat_le s.end to) e in (ltb-true now s.end a.0, leb-true s.end to a.1)

-- a telegram that ends is whole at one tap of an address
one_becomes : (p : Params) (now to : ℕ) (taps : List Tap) (trace : List Entry) (old : List Waited) (last : Option Record) (x : Record) → has_namesakes taps ≡ false → now < x.end + p.ttd
    → RecordHolds p now taps trace old last x → SpeakerHolds p now taps x
    → (i j : ℕ) (t u : Tap) → slice_get taps i ≡ Some t → slice_get taps j ≡ Some u → is_whole (slice_get (heard_by p.ttd trace x 0 taps x.heard) i) ≡ true → is_whole (slice_get (heard_by p.ttd trace x 0 taps x.heard) j) ≡ true
    → t.spec.address ≡ u.spec.address → i ≡ j
one_becomes p now to taps trace old last x distinct in_air o sp i j t u ht hu wt wu same =
    let a = becomes i t ht (whole_from p.ttd trace x 0 i i taps x.heard (omega arith) wt) in
    let b = becomes j u hu (whole_from p.ttd trace x 0 j j taps x.heard (omega arith) wu) in
    one_address taps i j t u distinct ht hu a b same
  where
    becomes : (k : ℕ) (v : Tap) → slice_get taps k ≡ Some v → (is_whole (slice_get x.heard k) ≡ true) ⊎ EndsWhole p.ttd trace x k k taps → v.running ≡ true
    becomes k v hv (inl was) =
        ⊎_elim (λ (mine : x.tap ≡ k). absurd (let w : false ≡ true = sym (subst (λ m. is_whole (slice_get x.heard m) ≡ false) mine sp.own) ∙ was in cc))
        (λ (other : x.tap ≡ k → ⊥). absurd (let w : false ≡ true = sym (ap is_whole (o.pending k v hv other in_air)) ∙ was in cc)) (cases_eq x.tap k)
    becomes k v hv (inr e) =
        let same_ : e.t ≡ v = same_Some e.t v (sym e.here ∙ hv) in
        subst (λ (z : Tap). z.running ≡ true) same_ (whole_parts p.ttd k e.t trace x e.whole).runs

-- a record of the trace after a pass
record_pass : (p : Params) (now to : ℕ) (taps : List Tap) (trace : List Entry) (new old : List Waited) (last : Option Record) (x : Record) → now < to → has_namesakes taps ≡ false
    → RecordHolds p now taps trace old last x → SpeakerHolds p now taps x
    → RecordHolds p to (told p.ttd trace now to 0 taps) (map (entry_at p.ttd taps trace now to) trace) (new ++ old) (option_map (relabel p.ttd taps trace now to) last) (relabel p.ttd taps trace now to x)
record_pass p now to taps trace new old last x lt distinct o sp =
    by_test (λ z. RecordHolds p to (told p.ttd trace now to 0 taps) (map (entry_at p.ttd taps trace now to) trace) (new ++ old) (option_map (relabel p.ttd taps trace now to) last) z) (ends_between now to (reaches p.ttd x)) (relabelled p.ttd taps trace x) x
    (λ ended. let e = ended_by now to (reaches p.ttd x) ended in record {
      begun = omega (arith, o.begun);
      some = o.some;
      fits = o.fits;
      spelled = o.spelled;
      order = λ init. before_heard p.ttd (option_map (relabel p.ttd taps trace now to) last) x (heard_by p.ttd trace x 0 taps x.heard) (before_relabel p.ttd taps trace now to last x (o.order init));
      source = λ da sa t. subst (λ l. sa ≡ address_at l x.tap) (sym (specs_told p.ttd trace now to 0 taps)) (o.source da sa t);
      reaches_all = λ k. sym (unheard_by p.ttd trace x 0 k taps x.heard) ∙ o.reaches_all k;
      origin = λ init late. origin_pass p taps trace now to new old x (o.origin init (omega arith));
      pending = λ k t h ne late. absurd (omega (arith, e.1));
      one_whole = λ i j t u ht hu wt wu same.
          let a = told_at p.ttd trace now to 0 i taps i t (omega arith) ht in
          let b = told_at p.ttd trace now to 0 j taps j u (omega arith) hu in
          one_becomes p now to taps trace old last x distinct e.0 o sp i j a.t b.t a.here b.here wt wu
          (sym (same_address p.ttd trace now to i taps i t a) ∙ same ∙ same_address p.ttd trace now to j taps j u b);
      older = older;
    })
    (λ _. record {
      begun = omega (arith, o.begun);
      some = o.some;
      fits = o.fits;
      spelled = o.spelled;
      order = λ init. before_relabel p.ttd taps trace now to last x (o.order init);
      source = λ da sa t. subst (λ l. sa ≡ address_at l x.tap) (sym (specs_told p.ttd trace now to 0 taps)) (o.source da sa t);
      reaches_all = o.reaches_all;
      origin = λ init late. origin_pass p taps trace now to new old x (o.origin init (omega arith));
      pending = λ k t h ne late. let b = told_at p.ttd trace now to 0 k taps k t (omega arith) h in o.pending k b.t b.here ne (omega arith);
      one_whole = λ i j t u ht hu wt wu same.
          let a = told_at p.ttd trace now to 0 i taps i t (omega arith) ht in
          let b = told_at p.ttd trace now to 0 j taps j u (omega arith) hu in
          o.one_whole i j a.t b.t a.here b.here wt wu (sym (same_address p.ttd trace now to i taps i t a) ∙ same ∙ same_address p.ttd trace now to j taps j u b);
      older = older;
    })
  where
    older : (k : ℕ) (t u : Tap) → slice_get (told p.ttd trace now to 0 taps) k ≡ Some t → t.running ≡ true → slice_get (told p.ttd trace now to 0 taps) x.tap ≡ Some u → (x.tap ≡ k → ⊥) → t.spec.address ≡ u.spec.address
        → (x.begin ≤ t.since) × (t.since ≡ x.begin + p.ttd → t.amid ≡ true)
    older k t u ht run hu ne same =
        let a = told_at p.ttd trace now to 0 k taps k t (omega arith) ht in
        let b = told_at p.ttd trace now to 0 x.tap taps x.tap u (omega arith) hu in
        let h = o.older k a.t b.t a.here (sym (ap (λ (z : Tap). z.running) a.is) ∙ run) b.here ne (sym (same_address p.ttd trace now to k taps k t a) ∙ same ∙ same_address p.ttd trace now to x.tap taps x.tap u b) in
        let s : t.since ≡ a.t.since = ap (λ (z : Tap). z.since) a.is in
        (omega (arith, h.0, s), λ z. ap (λ (z : Tap). z.amid) a.is ∙ h.1 (sym s ∙ z))

pub entry_pass : (p : Params) (now to : ℕ) (taps : List Tap) (trace : List Entry) (new old : List Waited) (last : Option Record) (e : Entry) → now < to → has_namesakes taps ≡ false
    → EntryHolds p now taps trace old last e → SpeaksOk p now taps e
    → EntryHolds p to (told p.ttd trace now to 0 taps) (map (entry_at p.ttd taps trace now to) trace) (new ++ old) (option_map (relabel p.ttd taps trace now to) last) (entry_at p.ttd taps trace now to e)
entry_pass p now to taps trace new old last (Noise span) lt distinct o sp = (omega (arith, o.0), o.1)
entry_pass p now to taps trace new old last (Sent x) lt distinct o sp =
    subst (EntryHolds p to (told p.ttd trace now to 0 taps) (map (entry_at p.ttd taps trace now to) trace) (new ++ old) (option_map (relabel p.ttd taps trace now to) last)) (sym (entry_is p.ttd taps trace now to x))
    (record_pass p now to taps trace new old last x lt distinct o sp)

-- what it was to its speaker
pub own_pass : (p : Params) (now to : ℕ) (taps : List Tap) (trace : List Entry) (x : Record) → is_whole (slice_get x.heard x.tap) ≡ false → is_whole (slice_get (relabel p.ttd taps trace now to x).heard (relabel p.ttd taps trace now to x).tap) ≡ false
own_pass p now to taps trace x own =
    by_test (λ (z : Record). is_whole (slice_get z.heard z.tap) ≡ false) (ends_between now to (reaches p.ttd x)) (relabelled p.ttd taps trace x) x
    (λ _. go (is_whole (slice_get (heard_by p.ttd trace x 0 taps x.heard) x.tap)) refl) (λ _. own)
  where
    go : (b : Bool) → is_whole (slice_get (heard_by p.ttd trace x 0 taps x.heard) x.tap) ≡ b → b ≡ false
    go false e = refl
    go true e =
        absurd (⊎_elim (λ (a : is_whole (slice_get x.heard x.tap) ≡ true). let w : false ≡ true = sym own ∙ a in let z : ⊥ = cc in z)
        (λ (h : EndsWhole p.ttd trace x x.tap x.tap taps). (whole_parts p.ttd x.tap h.t trace x h.whole).another refl)
        (whole_from p.ttd trace x 0 x.tap x.tap taps x.heard (omega arith) e))

-- ---- the trace

pub in_pass : (delay : ℕ) (taps : List Tap) (trace : List Entry) (now to : ℕ) (r : Record) (es : List Entry) → In (Sent r) es → In (Sent (relabel delay taps trace now to r)) (map (entry_at delay taps trace now to) es)
in_pass delay taps trace now to r [] i = absurd i
in_pass delay taps trace now to r (e ∷ es) i =
    ⊎_elim (λ (same : e ≡ Sent r). inl (ap (entry_at delay taps trace now to) same ∙ entry_is delay taps trace now to r)) (λ (j : In (Sent r) es). inr (in_pass delay taps trace now to r es j)) i

another_pass : (delay : ℕ) (taps : List Tap) (trace : List Entry) (now to : ℕ) (e x : Entry) → IsAnother e x → IsAnother (entry_at delay taps trace now to e) (entry_at delay taps trace now to x)
another_pass delay taps trace now to (Noise span) x h = tt
another_pass delay taps trace now to (Sent r) (Noise span) h =
    by_test (λ e. IsAnother e (Noise span)) (ends_between now to (reaches delay r)) (Sent (relabelled delay taps trace r)) (Sent r) (λ _. tt) (λ _. tt)
another_pass delay taps trace now to (Sent r) (Sent x) h =
    by_test (λ e. IsAnother e (entry_at delay taps trace now to (Sent x))) (ends_between now to (reaches delay r)) (Sent (relabelled delay taps trace r)) (Sent r)
    (λ _. by_test (λ e. IsAnother (Sent (relabelled delay taps trace r)) e) (ends_between now to (reaches delay x)) (Sent (relabelled delay taps trace x)) (Sent x) (λ _. h) (λ _. h))
    (λ _. by_test (λ e. IsAnother (Sent r) e) (ends_between now to (reaches delay x)) (Sent (relabelled delay taps trace x)) (Sent x) (λ _. h) (λ _. h))

pub others_pass : (delay : ℕ) (taps : List Tap) (trace : List Entry) (now to : ℕ) (es : List Entry) → AllOthers es → AllOthers (map (entry_at delay taps trace now to) es)
others_pass delay taps trace now to [] o = tt
others_pass delay taps trace now to (e ∷ es) o = (
  each_mapped (IsAnother (entry_at delay taps trace now to e)) (entry_at delay taps trace now to) es (each_map (IsAnother e) (λ x. IsAnother (entry_at delay taps trace now to e) (entry_at delay taps trace now to x)) es (another_pass delay taps trace now to e) o.0),
  others_pass delay taps trace now to es o.1,
)
