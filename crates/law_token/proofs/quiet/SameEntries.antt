-- What an event does to entries that leaves a tap what it feels: damage, longer noise, a speaker that stops, and what a telegram was at each tap.
use Rattle.std.proofs.Common.{◌≡◌, ℕ, ◌+◌, ◌<◌, ◌≤◌, ◌⊎◌, inl, inr, ⊎_elim, Bool, true, if◌then◌else◌, ◌==◌, List, [], ◌∷◌, map, sym, ap, ◌∙◌, subst, arith, Option, Some, None}
use Rattle.std.specs.Prelude.{max, slice_set}
use Rattle.std.proofs.lemmas.Bool.{ltb-true, lt-ltb, eqb-true, and_parts}
use Rattle.law_turn.specs.Spans.{Span}
use Rattle.law_model.specs.Trace.{Hit, Record, Entry, Sent, Noise, Unheard, cut_end, cut_at, is_noise_at, noisy_until, begins_from, unheard_at}
use Rattle.law_model.specs.Medium.{Tap, part_after, reaches, ends_between, entry_at, heard_by}
use Rattle.law_model.specs.Step.{with_hit, change_first}
use Rattle.law_model.proofs.Cases.{by_test}
use Rattle.law_token.specs.Lists.{Each}
use Rattle.law_token.specs.Places.{heard_span, IsOver, Place, Over}
use Rattle.law_token.proofs.bus.Hearers.{new_sent, new_over}
use Rattle.law_token.proofs.air.StoppedTap.{CutSpan, cut_bound, cut_span, over_stays}
use Rattle.law_token.proofs.pass.AllTaps.{same_entry_at}
use Rattle.law_token.proofs.quiet.Alert.{OwnEnds, IsApart, SameFor}

-- an entry that is to the tap as another
pub record SameEntry (c : Place) (e x : Entry) : Type 0 where
  pub back : (q : ℕ) → IsOver c.now q (heard_span c.p.ttd c.tap c.since x) → IsOver c.now q (heard_span c.p.ttd c.tap c.since e) ⊎ (c.now < q)
  pub forth : IsOver c.now c.now (heard_span c.p.ttd c.tap c.since e) → IsOver c.now c.now (heard_span c.p.ttd c.tap c.since x)
  pub ends : (q : ℕ) → OwnEnds c.tap q x → OwnEnds c.tap q e
  pub past : (reach m u : ℕ) → m < u → u ≤ c.now → IsApart reach c.tap m u x → IsApart reach c.tap m u e

abbrev AllSame : Place → List Entry → List Entry → Type 0
AllSame c [] [] = Unit {0}
AllSame c [] (x ∷ xs) = ⊥
AllSame c (e ∷ es) [] = ⊥
AllSame c (e ∷ es) (x ∷ xs) = SameEntry c e x × AllSame c es xs

all_back : (c : Place) (es xs : List Entry) (q : ℕ) → AllSame c es xs → Over c xs q → Over c es q ⊎ (c.now < q)
all_back c [] [] q s all = inl tt
all_back c [] (x ∷ xs) q s all = absurd s
all_back c (e ∷ es) [] q s all = absurd s
all_back c (e ∷ es) (x ∷ xs) q s all =
    ⊎_elim
    (λ (a : IsOver c.now q (heard_span c.p.ttd c.tap c.since e)). ⊎_elim (λ (b : Over c es q). inl (a, b)) (λ (b : c.now < q). inr b) (all_back c es xs q s.1 all.1))
    (λ (b : c.now < q). inr b)
    (s.0.back q all.0)

each_same : (c : Place) (P Q : Entry → Type 0) (es xs : List Entry) → ((e x : Entry) → SameEntry c e x → P e → Q x) → AllSame c es xs → Each P es → Each Q xs
each_same c P Q [] [] f s all = tt
each_same c P Q [] (x ∷ xs) f s all = absurd s
each_same c P Q (e ∷ es) [] f s all = absurd s
each_same c P Q (e ∷ es) (x ∷ xs) f s all = (f e x s.0 all.0, each_same c P Q es xs f s.1 all.1)

each_back : (c : Place) (P Q : Entry → Type 0) (es xs : List Entry) → ((e x : Entry) → SameEntry c e x → Q x → P e) → AllSame c es xs → Each Q xs → Each P es
each_back c P Q [] [] f s all = tt
each_back c P Q [] (x ∷ xs) f s all = absurd s
each_back c P Q (e ∷ es) [] f s all = absurd s
each_back c P Q (e ∷ es) (x ∷ xs) f s all = (f e x s.0 all.0, each_back c P Q es xs f s.1 all.1)

same_all : (c : Place) (es xs : List Entry) → AllSame c es xs → SameFor c es xs
same_all c es xs s = record {
  back = λ q over. all_back c es xs q s over;
  forth = λ over. each_same c (λ e. IsOver c.now c.now (heard_span c.p.ttd c.tap c.since e)) (λ e. IsOver c.now c.now (heard_span c.p.ttd c.tap c.since e)) es xs (λ e x h. h.forth) s over;
  ends = λ q all. each_back c (OwnEnds c.tap q) (OwnEnds c.tap q) es xs (λ e x h. h.ends q) s all;
  past = λ reach m u lt le all. each_back c (IsApart reach c.tap m u) (IsApart reach c.tap m u) es xs (λ e x h. h.past reach m u lt le) s all;
}

same_self : (c : Place) (e : Entry) → SameEntry c e e
same_self c e = record { back = λ q h. inl h; forth = λ h. h; ends = λ q h. h; past = λ reach m u lt le h. h }

all_self : (c : Place) (es : List Entry) → AllSame c es es
all_self c [] = tt
all_self c (e ∷ es) = (same_self c e, all_self c es)

all_map : (c : Place) (f : Entry → Entry) (es : List Entry) → ((e : Entry) → SameEntry c e (f e)) → AllSame c es (map f es)
all_map c f [] h = tt
all_map c f (e ∷ es) h = (h e, all_map c f es h)

all_change : (c : Place) (test : Entry → Bool) (change : Entry → Entry) (es : List Entry) → ((e : Entry) → test e ≡ true → SameEntry c e (change e)) → AllSame c es (change_first test change es)
all_change c test change [] h = tt
all_change c test change (e ∷ es) h =
    by_test (λ (xs : List Entry). AllSame c (e ∷ es) xs) (test e) (change e ∷ es) (e ∷ change_first test change es)
    (λ passes. (h e passes, all_self c es)) (λ _. (same_self c e, all_change c test change es h))

-- ---- damage

hit_one : (c : Place) (hit : Hit) (e : Entry) → SameEntry c e (with_hit hit e)
hit_one c hit (Noise span) = same_self c (Noise span)
hit_one c hit (Sent r) = record { back = λ q h. inl h; forth = λ h. h; ends = λ q h. h; past = λ reach m u lt le h. h }

pub same_hit : (c : Place) (test : Entry → Bool) (hit : Hit) (es : List Entry) → SameFor c es (change_first test (with_hit hit) es)
same_hit c test hit es = same_all c es (change_first test (with_hit hit) es) (all_change c test (with_hit hit) es (λ e _. hit_one c hit e))

-- ---- noise that lasts longer

pub part_some : (since : ℕ) (span : Span) → since < span.end → part_after since span ≡ Some (record { begin = max span.begin since; end = span.end })
part_some since span lt = ap (λ b. if b then Some (record { begin = max span.begin since; end = span.end }) else None) (lt-ltb since span.end lt)

noisy_one : (c : Place) (m : ℕ) (e : Entry) → c.since ≤ c.now → is_noise_at c.now e ≡ true → SameEntry c e (noisy_until m e)
noisy_one c m (Sent r) began h = same_self c (Sent r)
noisy_one c m (Noise span) began h =
    let there : c.now < span.end = ltb-true c.now span.end h in
    let longer : Span = record span { end = max span.end m } in
    let is = part_some c.since span (omega arith) in
    let was = part_some c.since longer (omega arith) in
    record {
      back = λ q over. inl (subst (IsOver c.now q) (sym is)
          (⊎_elim (λ (a : c.now ≤ max span.begin c.since). inl a) (λ (b : max span.end m ≤ q). inr (omega arith)) (subst (IsOver c.now q) was over)));
      forth = λ over. subst (IsOver c.now c.now) (sym was)
          (⊎_elim (λ (a : c.now ≤ max span.begin c.since). inl a) (λ (b : span.end ≤ c.now). absurd (omega arith)) (subst (IsOver c.now c.now) is over));
      ends = λ q h. tt;
      past = λ reach n u lt le h. ⊎_elim (λ (a : u ≤ span.begin). inl a) (λ (b : max span.end m ≤ n). inr (omega arith)) h;
    }

pub same_noisy : (c : Place) (m : ℕ) (es : List Entry) → c.since ≤ c.now → SameFor c es (change_first (is_noise_at c.now) (noisy_until m) es)
same_noisy c m es began = same_all c es (change_first (is_noise_at c.now) (noisy_until m) es) (all_change c (is_noise_at c.now) (noisy_until m) es (λ e h. noisy_one c m e began h))

-- ---- another tap stops

cut_back : (now q : ℕ) (o u : Option Span) → CutSpan now o u → IsOver now q u → IsOver now q o ⊎ (now < q)
cut_back now q None None c h = inl tt
cut_back now q None (Some y) c h = absurd c
cut_back now q (Some x) None c h = absurd c
cut_back now q (Some x) (Some y) c h =
    ⊎_elim (λ (a : now ≤ y.begin). inl (inl (omega (arith, c.0))))
    (λ (a : y.end ≤ q). ⊎_elim (λ (s : y.end ≡ x.end). inl (inr (omega (arith, s)))) (λ (l : now < y.end). inr (omega arith)) c.2) h

cut_one : (c : Place) (speaker : ℕ) (e : Entry) → c.since ≤ c.now → (speaker ≡ c.tap → ⊥) → SameEntry c e (cut_at c.now speaker e)
cut_one c speaker (Noise span) began ne = same_self c (Noise span)
cut_one c speaker (Sent r) began ne =
    let cut = cut_span c.p.ttd c.tap c.since c.now speaker (Sent r) began in
    let o = heard_span c.p.ttd c.tap c.since (Sent r) in
    let u = heard_span c.p.ttd c.tap c.since (cut_at c.now speaker (Sent r)) in
    record {
      back = λ q over. cut_back c.now q o u cut over;
      forth = λ over. over_stays c.now c.now o u cut over;
      ends = λ q. by_test (λ (x : Record). OwnEnds c.tap q (Sent x) → OwnEnds c.tap q (Sent r)) (r.tap == speaker) (record r { end = cut_end c.now r }) r
          (λ is h mine. absurd (ne (sym (eqb-true r.tap speaker is) ∙ mine))) (λ _ h. h);
      past = λ reach m u lt le. by_test (λ (x : Record). IsApart reach c.tap m u (Sent x) → IsApart reach c.tap m u (Sent r)) (r.tap == speaker) (record r { end = cut_end c.now r }) r
          (λ is h. (
            λ mine. absurd (ne (sym (eqb-true r.tap speaker is) ∙ mine)),
            λ other. ⊎_elim (λ (a : u ≤ r.begin + reach). inl a)
                (λ (b : cut_end c.now r + reach ≤ m). ⊎_elim (λ (s : cut_end c.now r ≡ r.end). inr (omega (arith, s, b))) (λ (l : c.now < cut_end c.now r). absurd (omega (arith, l, b, lt, le))) (cut_bound c.now r)) (h.1 other),
          ))
          (λ _ h. h);
    }

pub same_cut : (c : Place) (speaker : ℕ) (es : List Entry) → c.since ≤ c.now → (speaker ≡ c.tap → ⊥) → SameFor c es (map (cut_at c.now speaker) es)
same_cut c speaker es began ne = same_all c es (map (cut_at c.now speaker) es) (all_map c (cut_at c.now speaker) es (λ e. cut_one c speaker e began ne))

-- ---- a telegram has ended at the taps

relabel_one : (c : Place) (taps : List Tap) (trace : List Entry) (from to : ℕ) (e : Entry) → SameEntry c e (entry_at c.p.ttd taps trace from to e)
relabel_one c taps trace from to e =
    let s = same_entry_at c.p.ttd c.tap c.since taps trace from to e in
    record {
      back = λ q over. inl (subst (IsOver c.now q) (sym s.span) over);
      forth = λ over. subst (IsOver c.now c.now) s.span over;
      ends = λ q. ends q e;
      past = λ reach m u lt le. past reach m u e;
    }
  where
    ends : (q : ℕ) (e : Entry) → OwnEnds c.tap q (entry_at c.p.ttd taps trace from to e) → OwnEnds c.tap q e
    ends q (Noise span) h = tt
    ends q (Sent r) h =
        by_test (λ (x : Entry). OwnEnds c.tap q x → OwnEnds c.tap q (Sent r)) (ends_between from to (reaches c.p.ttd r)) (Sent (record r { heard = heard_by c.p.ttd trace r 0 taps r.heard })) (Sent r) (λ _ g. g) (λ _ g. g) h

    past : (reach m u : ℕ) (e : Entry) → IsApart reach c.tap m u (entry_at c.p.ttd taps trace from to e) → IsApart reach c.tap m u e
    past reach m u (Noise span) h = h
    past reach m u (Sent r) h =
        by_test (λ (x : Entry). IsApart reach c.tap m u x → IsApart reach c.tap m u (Sent r)) (ends_between from to (reaches c.p.ttd r)) (Sent (record r { heard = heard_by c.p.ttd trace r 0 taps r.heard })) (Sent r) (λ _ g. g) (λ _ g. g) h

pub same_relabelled : (c : Place) (taps : List Tap) (trace : List Entry) (from to : ℕ) (es : List Entry) → SameFor c es (map (entry_at c.p.ttd taps trace from to) es)
same_relabelled c taps trace from to es = same_all c es (map (entry_at c.p.ttd taps trace from to) es) (all_map c (entry_at c.p.ttd taps trace from to) es (relabel_one c taps trace from to))

-- ---- a telegram that begins now is lost at a tap

lost_one : (c : Place) (tap speaker : ℕ) (e : Entry) → begins_from c.now speaker e ≡ true → SameEntry c e (unheard_at tap e)
lost_one c tap speaker (Noise span) h = same_self c (Noise span)
lost_one c tap speaker (Sent r) h =
    let at = eqb-true r.begin c.now (and_parts (r.tap == speaker) (r.begin == c.now) h).1 in
    let lost = unheard_at tap (Sent r) in
    record {
      back = λ q over. inl (new_over c.now q (heard_span c.p.ttd c.tap c.since (Sent r)) (new_sent c r (omega (arith, at))));
      forth = λ over. new_over c.now c.now (heard_span c.p.ttd c.tap c.since lost) (new_sent c (record r { heard = slice_set r.heard tap Unheard }) (omega (arith, at)));
      ends = λ q h. h;
      past = λ reach m u lt le h. h;
    }

pub same_lost : (c : Place) (tap speaker : ℕ) (es : List Entry) → SameFor c es (change_first (begins_from c.now speaker) (unheard_at tap) es)
same_lost c tap speaker es = same_all c es (change_first (begins_from c.now speaker) (unheard_at tap) es) (all_change c (begins_from c.now speaker) (unheard_at tap) es (λ e h. lost_one c tap speaker e h))
