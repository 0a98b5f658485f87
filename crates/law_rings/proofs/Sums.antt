-- The token goes on round the ring: the receipts stay in order; and the sum of the stations' times bounds a rotation.
use Rattle.std.proofs.Common.{◌≡◌, ℕ, ◌+◌, ◌*◌, ◌<◌, ◌≤◌, ⊎_elim, Bool, true, false, if◌then◌else◌, ◌==◌, ◌||◌, List, [], ◌∷◌, ◌++◌, length, refl, sym, ap, ◌∙◌, subst, arith}
use Rattle.std.proofs.lemmas.Bool.{eq-eqb, eqb-true, ne_eqb, cases_eq}
use Rattle.std.proofs.Math.Nat.{add-mul, one-mul}
use Rattle.pb_timers.specs.Timers.{Params, bits}
use Rattle.pb_ring.specs.AddressSets.{IsAscending, is_member, next_address}
use Rattle.law_live.specs.NeverDead.{cycle}
use Rattle.law_live.specs.Holding.{limit}
use Rattle.law_rings.specs.Receipts.{Log, ChainFrom, Chain, Follows, InOrder}
use Rattle.law_rings.proofs.Rounds.{Behind, behind, Turns, turns, EndsIn, ends_behind, chain_end, chain_map, in_behind, long_behind}

-- ---- a receipt

-- the log after a receipt of an address
abbrev pub received_by : Log → (n to : ℕ) → Log
received_by log n to = record { at = λ x. if x == n then to else log.at x; previous = λ x. if x == n then log.at x else log.previous x }

-- what it says of that address, and of others
pub at_it : (log : Log) (n to : ℕ) → (received_by log n to).at n ≡ to
at_it log n to = ap (λ b. if b then to else log.at n) (eq-eqb n n refl)

-- the receipt of another
pub at_other : (log : Log) (n to x : ℕ) → (x ≡ n → ⊥) → (received_by log n to).at x ≡ log.at x
at_other log n to x ne = ap (λ b. if b then to else log.at x) (ne_eqb x n ne)

-- the one before it
pub before_it : (log : Log) (n to : ℕ) → (received_by log n to).previous n ≡ log.at n
before_it log n to = ap (λ b. if b then log.at n else log.previous n) (eq-eqb n n refl)

-- that of another
pub before_other : (log : Log) (n to x : ℕ) → (x ≡ n → ⊥) → (received_by log n to).previous x ≡ log.previous x
before_other log n to x ne = ap (λ b. if b then log.at x else log.previous x) (ne_eqb x n ne)

-- two others follow each other as before
follows_others : (p : Params) (n to : ℕ) (log : Log) (y z : ℕ) → (y ≡ n → ⊥) → (z ≡ n → ⊥) → Follows p log y z → Follows p (received_by log n to) y z
follows_others p n to log y z ney nez f =
    let ay = at_other log n to y ney in
    let az = at_other log n to z nez in
    let py = before_other log n to y ney in (
      subst (λ u. u ≤ (received_by log n to).at z) (sym ay) (subst (λ u. log.at y ≤ u) (sym az) f.0),
      subst (λ u. u ≤ limit p ((received_by log n to).at y) ((received_by log n to).previous y) true + bits 3 + p.ttd) (sym az)
          (subst (λ u. log.at z ≤ limit p u ((received_by log n to).previous y) true + bits 3 + p.ttd) (sym ay)
          (subst (λ u. log.at z ≤ limit p (log.at y) u true + bits 3 + p.ttd) (sym py) f.1)),
    )

-- the next station receives the token
pub record NextReceives (p : Params) (members : List ℕ) (a : ℕ) (log : Log) (to : ℕ) : Type 0 where
  pub ascends : IsAscending members
  pub member : is_member members a ≡ true
  pub in_order : InOrder p members a log
  pub later : log.at a ≤ to
  pub in_time : to ≤ limit p (log.at a) (log.previous a) true + bits 3 + p.ttd

-- then the receipts are in order from behind that station
pub order_goes_on : (p : Params) (members : List ℕ) (a : ℕ) (log : Log) (to : ℕ) → NextReceives p members a log to → InOrder p members (next_address a members) (received_by log (next_address a members) to)
order_goes_on p members a log to r = record { order = subst (Chain (Follows p log')) (sym t.last) (chain b.rest refl); before = before }
  where
    n : ℕ
    n = next_address a members

    b : Behind members a
    b = behind members a r.ascends r.member

    t : Turns members a b
    t = turns members a b r.ascends r.member

    log' : Log
    log' = received_by log n to

    old : ChainFrom (Follows p log) n b.rest
    old = subst (Chain (Follows p log)) b.is r.in_order.order

    ends : EndsIn a n b.rest
    ends = ends_behind members a b r.ascends r.member

    -- where there are others, the one that passed the token on is another
    passes : (x : ℕ) (xs : List ℕ) → b.rest ≡ x ∷ xs → a ≡ n → ⊥
    passes x xs e same = in_rest x xs (subst (EndsIn a n) e ends) (subst (λ z. is_member z n ≡ false) e t.once)
      where
        in_rest : (x : ℕ) (xs : List ℕ) → EndsIn a x xs → is_member (x ∷ xs) n ≡ false → ⊥
        in_rest x [] h absent = let w : true ≡ false = sym (ap (λ c. c || false) (eq-eqb x n (h ∙ same))) ∙ absent in cc
        in_rest x (y ∷ ys) h absent = in_rest y ys h (later (x == n) absent)
          where
            later : (c : Bool) → (c || is_member (y ∷ ys) n) ≡ false → is_member (y ∷ ys) n ≡ false
            later true e = absurd cc
            later false e = e

    chain : (xs : List ℕ) → b.rest ≡ xs → Chain (Follows p log') (b.rest ++ n ∷ [])
    chain [] e = subst (λ z. Chain (Follows p log') (z ++ n ∷ [])) (sym e) tt
    chain (x ∷ xs) e =
        let ne = passes x xs e in
        let aa = at_other log n to a ne in
        let an = at_it log n to in
        let pa = before_other log n to a ne in
        let follow : Follows p log' a n = (
          subst (λ u. u ≤ log'.at n) (sym aa) (subst (λ u. log.at a ≤ u) (sym an) r.later),
          subst (λ u. u ≤ limit p (log'.at a) (log'.previous a) true + bits 3 + p.ttd) (sym an)
              (subst (λ u. to ≤ limit p u (log'.previous a) true + bits 3 + p.ttd) (sym aa) (subst (λ u. to ≤ limit p (log.at a) u true + bits 3 + p.ttd) (sym pa) r.in_time)),
        ) in
        subst (λ z. Chain (Follows p log') (z ++ n ∷ [])) (sym e)
        (chain_end (Follows p log') a n x xs
        (chain_map (Follows p log) (Follows p log') n x xs (λ y z. follows_others p n to log y z) (subst (λ z. is_member z n ≡ false) e t.once) (subst (ChainFrom (Follows p log) n) e old).1)
        (subst (EndsIn a n) e ends) follow)

    -- the station behind the next one has received the token no earlier than that had before
    n_next : log.at n ≤ log'.at (next_address n members)
    n_next = by b.rest refl
      where
        first : (x : ℕ) (xs : List ℕ) → b.rest ++ n ∷ [] ≡ x ∷ xs → next_address n members ≡ x
        first x xs e =
            let c = behind members n r.ascends t.member in
            let h : next_address n members ∷ c.rest ≡ x ∷ xs = sym c.is ∙ t.last ∙ e in cc

        by : (xs : List ℕ) → b.rest ≡ xs → log.at n ≤ log'.at (next_address n members)
        by [] e =
            let same = first n [] (ap (λ z. z ++ n ∷ []) e) in
            let alone : n ≡ a = subst (EndsIn a n) e ends in
            let later = r.later in
            let at = at_it log n to in
            let as_ = ap log.at alone in
            let as' = ap log'.at same in
            omega (arith, later, at, as_, as')
        by (x ∷ xs) e =
            let same = first x (xs ++ n ∷ []) (ap (λ z. z ++ n ∷ []) e) in
            let f = (subst (ChainFrom (Follows p log) n) e old).0 in
            let ne : x ≡ n → ⊥ = λ z. let w : true ≡ false = sym (ap (λ c. c || is_member xs n) (eq-eqb x n z)) ∙ subst (λ z. is_member z n ≡ false) e t.once in cc in
            let as' = ap log'.at same ∙ at_other log n to x ne in
            omega (arith, f.0, as')

    before : (m : ℕ) → is_member members m ≡ true → log'.previous m ≤ log'.at (next_address n members)
    before m in_it =
        ⊎_elim (λ (same : m ≡ n). let e = ap log'.previous same ∙ before_it log n to in omega (arith, e, n_next))
        (λ (ne : m ≡ n → ⊥). let e = before_other log n to m ne in let h = r.in_order.before m in_it in omega (arith, e, h, n_next)) (cases_eq m n)

-- ---- the sum

-- how long a station waits from receipt to receipt
abbrev pub each_station : Params → ℕ
each_station p = cycle p + bits 3 + p.ttd + p.tid1 + p.lag

-- one more station
one_more : (n d : ℕ) → (n + 1) * d ≡ n * d + d
one_more n d = add-mul n 1 d ∙ ap (λ z. n * d + z) (one-mul d)

-- along the ring each receipt is later, by at most a station's time beyond the target rotation time and a cycle
sum_along : (p : Params) (log : Log) (first a x : ℕ) (xs : List ℕ) (n : ℕ) → 0 < p.ttr → ((m : ℕ) → is_member (x ∷ xs) m ≡ true → log.previous m ≤ first) → ChainFrom (Follows p log) x xs → EndsIn a x xs
    → first ≤ log.at x → log.at x < first + p.ttr + cycle p + n * each_station p
    → ((m : ℕ) → is_member (x ∷ xs) m ≡ true → first ≤ log.at m) × (log.at a < first + p.ttr + cycle p + (n + length xs) * each_station p)
sum_along p log first a x [] n some all c ends low high = (
  λ m i. let e = only (x == m) refl i in subst (λ z. first ≤ log.at z) e low,
  subst (λ z. log.at z < first + p.ttr + cycle p + (n + 0) * each_station p) ends (let e : n + 0 ≡ n = omega arith in subst (λ k. log.at x < first + p.ttr + cycle p + k * each_station p) (sym e) high),
)
  where
    only : {m : ℕ} (b : Bool) → (x == m) ≡ b → (b || false) ≡ true → x ≡ m
    only {m} true e i = eqb-true x m e
    only {m} false e i = absurd (let w : false ≡ true = i in cc)
sum_along p log first a x (y ∷ ys) n some all c ends low high =
    let here = all x (ap (λ b. b || is_member (y ∷ ys) x) (eq-eqb x x refl)) in
    let follow = c.0 in
    let time = follow.1 in
    let more = one_more n (each_station p) in
    let rest = sum_along p log first a y ys (n + 1) some (λ m i. all m (later (x == m) i)) c.1 ends (omega (arith, follow.0, low)) (omega (arith, time, here, high, more, some)) in
    let e : n + 1 + length ys ≡ n + length (y ∷ ys) = omega arith in (
      λ m i. by m (x == m) refl i rest.0,
      subst (λ k. log.at a < first + p.ttr + cycle p + k * each_station p) e rest.1,
    )
  where
    later : (b : Bool) {d : Bool} → d ≡ true → (b || d) ≡ true
    later true e = refl
    later false e = e

    by : (m : ℕ) (b : Bool) → (x == m) ≡ b → (b || is_member (y ∷ ys) m) ≡ true → ((m : ℕ) → is_member (y ∷ ys) m ≡ true → first ≤ log.at m) → first ≤ log.at m
    by m true e i rest = subst (λ z. first ≤ log.at z) (eqb-true x m e) low
    by m false e i rest = rest m i

-- so a rotation is bounded
pub rotation_bounded : (p : Params) (members : List ℕ) (a : ℕ) (log : Log) (now : ℕ) → IsAscending members → 0 < p.ttr → is_member members a ≡ true → InOrder p members a log → now ≤ limit p (log.at a) (log.previous a) true + bits 3 + p.ttd
    → (m : ℕ) → is_member members m ≡ true → now < log.at m + p.ttr + cycle p + length members * each_station p
rotation_bounded p members a log now up some member o late m in_it =
    let s = sum_along p log (log.at n) a n b.rest 0 some all (subst (Chain (Follows p log)) b.is o.order) (ends_behind members a b up member) (omega arith) (omega (arith, some)) in
    let low = s.0 m (subst (λ xs. is_member xs m ≡ true) b.is (in_behind members a m up member ∙ in_it)) in
    let here = o.before a member in
    let more = one_more (0 + length b.rest) (each_station p) in
    let long : length members ≡ 0 + length b.rest + 1 = let e = long_behind members a up member in let f = ap length b.is in let g : length (n ∷ b.rest) ≡ length b.rest + 1 = omega arith in omega (arith, e, f, g) in
    let e = ap (λ k. k * each_station p) long in
    omega (arith, s.1, low, late, here, more, e, some)
  where
    n : ℕ
    n = next_address a members

    b : Behind members a
    b = behind members a up member

    -- each receipt before the last is no later than the first of the last ones
    all : (x : ℕ) → is_member (n ∷ b.rest) x ≡ true → log.previous x ≤ log.at n
    all x i = o.before x (sym (in_behind members a x up member) ∙ ap (λ xs. is_member xs x) b.is ∙ i)
