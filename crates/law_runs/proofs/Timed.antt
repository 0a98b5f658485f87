-- The events from outside come at their moments.
use Rattle.std.proofs.Common.{◌≡◌, ◌∙◌, ap, sym, subst, refl, arith, ℕ, zero, suc, ◌-◌, ◌<◌, ◌≤◌, nat_lt, nat_le, ◌&&◌, ◌==◌, true, false, cond, List, [], ◌∷◌, ◌++◌, append-nil, map, Bool, Option, Some, None, Ok}
use Rattle.std.specs.Prelude.{if◌then◌else◌}
use Rattle.std.specs.List.{filter, filter_map, cons_option}
use Rattle.std.proofs.lemmas.List.Elements.{filter_map-append}
use Rattle.std.proofs.lemmas.Bool.{leb-true, leb-false, eqb-true, eqb-false, ne_eqb, eq-eqb, le-leb, lt-ltb}
use Rattle.law_turn.specs.Stations.{earlier}
use Rattle.law_turn.proofs.Cases.{by_test, later-earlier}
use Rattle.law_model.specs.World.{World, Event, Turn, Pass, Damage, Start, Stop, Queue, Noise, Unheard, Reply}
use Rattle.law_model.specs.Step.{step, world_after}
use Rattle.law_runs.specs.Runs.{Plan, places, wanted, next, next_turn, passing, all, ending, instant, turns, run, after}
use Rattle.law_runs.specs.Histories.{Leads}
use Rattle.law_runs.specs.Bus.{bus, dues, next_change}
use Rattle.law_runs.specs.Scenarios.{Planned, Deed, Happens, Withhold, plan_of, early_of, late_of, is_late, event_before, event_after, next_step}
use Rattle.law_runs.specs.Laws.{is_from_outside, deed_is_from_outside, AreFromOutside, timed, outside_at}
use Rattle.law_runs.proofs.Accepting.{lasts, clock-step}
use Rattle.law_runs.proofs.Following.{join}
use Rattle.law_runs.proofs.Moments.{LiesAfter, Skips, later-skips, after-next_change, after-next_step}
use Rattle.law_runs.proofs.Ending.{onward-some}
use Rattle.law_runs.proofs.Leading.{run-leads, on_ok-some, ended, all-leads}

-- ---- events with their clocks

-- the world after an accepted event
after-ok : (w u : World) (r : Reply) (e : Event) → step w e ≡ Ok (u, r) → world_after w (step w e) ≡ u
after-ok w u r e ok = ap (world_after w) ok

timed-append : (xs ys : List Event) (w u : World) → Leads bus w xs u → timed w (xs ++ ys) ≡ timed w xs ++ timed u ys
unfolding Leads
timed-append [] ys w u same = ap (λ x. timed x ys) same
timed-append (e ∷ xs) ys w u (v, r, ok, rest) =
    ap (λ es. (w.now, e) ∷ es) (ap (λ x. timed x (xs ++ ys)) (after-ok w v r e ok) ∙ timed-append xs ys v u rest ∙ ap (λ x. timed x xs ++ timed u ys) (sym (after-ok w v r e ok)))

-- what comes from outside at a moment
abbrev outside : ℕ → World → List Event → List Event
outside m w es = filter_map (outside_at m) (timed w es)

outside-append : (m : ℕ) (xs ys : List Event) (w u : World) → Leads bus w xs u → outside m w (xs ++ ys) ≡ outside m w xs ++ outside m u ys
outside-append m xs ys w u leads = ap (filter_map (outside_at m)) (timed-append xs ys w u leads) ∙ filter_map-append (outside_at m) (timed w xs) (timed u ys)

-- nothing comes before the clock
outside-before : (m : ℕ) (es : List Event) (w u : World) → Leads bus w es u → m < w.now → outside m w es ≡ []
unfolding Leads
outside-before m [] w u leads before = refl
outside-before m (e ∷ es) w u (v, r, ok, rest) before =
    let not_here : (w.now == m) ≡ false = ne_eqb w.now m (λ same. absurd (omega (arith, same, before))) in
    let later : m < v.now = omega (arith, clock-step w v r e ok, before) in
    ap (λ x. cons_option (outside_at m (w.now, e)) (outside m x es)) (after-ok w v r e ok)
    ∙ ap (λ b. cons_option (if b && is_from_outside e then Some e else None) (outside m v es)) not_here
    ∙ outside-before m es v u rest later

-- events that take no time
abbrev TakeNoTime : List Event → Type 0
TakeNoTime [] = Unit {0}
TakeNoTime (e ∷ es) = (lasts e ≡ 0) × TakeNoTime es

-- what comes from outside, if it is asked for this moment
abbrev kept : Bool → List Event → List Event
kept b es = if b then filter is_from_outside es else []

kept-one : (b c : Bool) (e : Event) (es : List Event)
    → cons_option (if b && c then Some e else None) (if b then es else []) ≡ (if b then cond c (e ∷ es) es else [])
kept-one true true e es = refl
kept-one true false e es = refl
kept-one false c e es = refl

-- events that take no time come at the clock, and leave it
outside-now : (m : ℕ) (es : List Event) (w u : World) → Leads bus w es u → TakeNoTime es → (outside m w es ≡ kept (w.now == m) es) × (u.now ≡ w.now)
unfolding Leads
outside-now m [] w u same no_time = (by_test (λ (xs : List Event). [] ≡ xs) (w.now == m) [] [] (λ _. refl) (λ _. refl), ap (λ (x : World). x.now) (sym same))
outside-now m (e ∷ es) w u (v, r, ok, rest) no_time =
    let stays : v.now ≡ w.now = omega (arith, clock-step w v r e ok, no_time.0) in
    let more = outside-now m es v u rest no_time.1 in (
      ap (λ x. cons_option (outside_at m (w.now, e)) (outside m x es)) (after-ok w v r e ok)
          ∙ ap (λ xs. cons_option (outside_at m (w.now, e)) xs) (more.0 ∙ ap (λ n. kept (n == m) es) stays)
          ∙ kept-one (w.now == m) (is_from_outside e) e (filter is_from_outside es),
      more.1 ∙ stays,
    )

-- ---- the events of an instant

no_time-turns : (taps : List ℕ) → TakeNoTime (map Turn taps)
no_time-turns [] = tt
no_time-turns (tap ∷ taps) = (refl, no_time-turns taps)

kept-turns : (taps : List ℕ) → filter is_from_outside (map Turn taps) ≡ []
kept-turns [] = refl
kept-turns (tap ∷ taps) = kept-turns taps

-- all events come from outside, and so take no time
abbrev AllOutside : List Event → Type 0
AllOutside [] = Unit {0}
AllOutside (e ∷ es) = (is_from_outside e ≡ true) × AllOutside es

no_time-one : (e : Event) → is_from_outside e ≡ true → lasts e ≡ 0
no_time-one (Turn tap) is = refl
no_time-one (Pass bits) is = absurd cc
no_time-one (Damage tap speaker place) is = refl
no_time-one (Start tap) is = refl
no_time-one (Stop tap) is = refl
no_time-one (Queue tap request) is = refl
no_time-one (Noise bits) is = refl
no_time-one (Unheard tap speaker) is = refl

no_time-outside : (es : List Event) → AllOutside es → TakeNoTime es
no_time-outside [] are = tt
no_time-outside (e ∷ es) are = (no_time-one e are.0, no_time-outside es are.1)

kept-outside : (es : List Event) → AllOutside es → filter is_from_outside es ≡ es
kept-outside [] are = refl
kept-outside (e ∷ es) are = ap (λ b. cond b (e ∷ filter is_from_outside es) (filter is_from_outside es)) are.0 ∙ ap (λ xs. e ∷ xs) (kept-outside es are.1)

outside-pass : (m d : ℕ) (w : World) → outside m w (Pass d ∷ []) ≡ []
outside-pass m d w = by (w.now == m)
  where
    by : (b : Bool) → cons_option (if b && false then Some (Pass d) else None) [] ≡ []
    by true = refl
    by false = refl

outside-passing : (m : ℕ) (p : Plan Event) (now : ℕ) (t : Option ℕ) (w : World) → outside m w (passing bus p now t) ≡ []
outside-passing m p now (Some t) w = outside-pass m (t - now) w
outside-passing m p now None w =
    by_test (λ (es : List Event). outside m w es ≡ []) (nat_lt now p.until) (Pass (p.until - now) ∷ []) [] (λ _. outside-pass m (p.until - now) w) (λ _. refl)

-- the clock as time has passed to the next instant
clock-passing : (p : Plan Event) (now t : ℕ) (w u : World) → w.now ≡ now → now < t → Leads bus w (passing bus p now (Some t)) u → u.now ≡ t
unfolding Leads
clock-passing p now t w u same before (v, r, ok, last) = omega (arith, ap (λ (x : World). x.now) last, clock-step w v r (Pass (t - now)) ok, same, before)

-- the steps of an instant come at its clock, and nothing else from outside
outside-instant : (m : ℕ) (p : Plan Event) (now : ℕ) (taps : List ℕ) (t : Option ℕ) (w a b c d : World) → w.now ≡ now → AllOutside (p.early now) → AllOutside (p.late now)
    → Leads bus w (p.early now) a → Leads bus a (map Turn taps) b → Leads bus b (p.late now) c → Leads bus c (passing bus p now t) d
    → (outside m w (p.early now ++ (map Turn taps ++ (p.late now ++ passing bus p now t))) ≡ (if now == m then p.early now ++ p.late now else [])) × (c.now ≡ now)
outside-instant m p now taps t w a b c d same early late one two three four =
    let first = outside-now m (p.early now) w a one (no_time-outside (p.early now) early) in
    let second = outside-now m (map Turn taps) a b two (no_time-turns taps) in
    let third = outside-now m (p.late now) b c three (no_time-outside (p.late now) late) in
    let at_a : a.now ≡ now = first.1 ∙ same in
    let at_b : b.now ≡ now = second.1 ∙ at_a in
    let all_late : outside m b (p.late now ++ passing bus p now t) ≡ kept (now == m) (p.late now) ++ []
    = outside-append m (p.late now) (passing bus p now t) b c three
    ∙ ap (λ xs. xs ++ outside m c (passing bus p now t)) (third.0 ∙ ap (λ n. kept (n == m) (p.late now)) at_b) ∙ ap (λ xs. kept (now == m) (p.late now) ++ xs) (outside-passing m p now t c) in
    let all_turns : outside m a (map Turn taps ++ (p.late now ++ passing bus p now t)) ≡ kept (now == m) (map Turn taps) ++ (kept (now == m) (p.late now) ++ [])
    = outside-append m (map Turn taps) (p.late now ++ passing bus p now t) a b two
    ∙ ap (λ xs. xs ++ outside m b (p.late now ++ passing bus p now t)) (second.0 ∙ ap (λ n. kept (n == m) (map Turn taps)) at_a)
    ∙ ap (λ xs. kept (now == m) (map Turn taps) ++ xs) all_late in (
      outside-append m (p.early now) (map Turn taps ++ (p.late now ++ passing bus p now t)) w a one
          ∙ ap (λ xs. xs ++ outside m a (map Turn taps ++ (p.late now ++ passing bus p now t))) (first.0 ∙ ap (λ n. kept (n == m) (p.early now)) same)
          ∙ ap (λ xs. kept (now == m) (p.early now) ++ xs) all_turns
          ∙ by (now == m),
      third.1 ∙ at_b,
    )
  where
    by : (b : Bool) → kept b (p.early now) ++ (kept b (map Turn taps) ++ (kept b (p.late now) ++ [])) ≡ (if b then p.early now ++ p.late now else [])
    by true = ap (λ xs. xs ++ (filter is_from_outside (map Turn taps) ++ (filter is_from_outside (p.late now) ++ []))) (kept-outside (p.early now) early)
        ∙ ap (λ xs. p.early now ++ (xs ++ (filter is_from_outside (p.late now) ++ []))) (kept-turns taps)
        ∙ ap (λ xs. p.early now ++ xs) (append-nil (filter is_from_outside (p.late now)) ∙ kept-outside (p.late now) late)
    by false = refl

-- ---- the run

-- what is asked of a plan: its events come from outside, its next moment lies after now, and no event comes between
record IsTold (p : Plan Event) : Type 0 where
  early : (now : ℕ) → AllOutside (p.early now)
  late : (now : ℕ) → AllOutside (p.late now)
  later : (now : ℕ) → LiesAfter now (p.later now)
  none : (now m : ℕ) → now < m → LiesAfter m (p.later now) → (p.early m ≡ []) × (p.late m ≡ [])

-- what is planned for a moment
abbrev planned : Plan Event → ℕ → List Event
planned p m = if nat_le m p.until then p.early m ++ p.late m else []

planned-none : (p : Plan Event) (m : ℕ) → (m ≤ p.until → (p.early m ≡ []) × (p.late m ≡ [])) → [] ≡ planned p m
planned-none p m none =
    by_test (λ (es : List Event). [] ≡ es) (nat_le m p.until) (p.early m ++ p.late m) []
    (λ is. let both = none (leb-true m p.until is) in sym (ap (λ xs. xs ++ p.late m) both.0 ∙ both.1)) (λ _. refl)

planned-now : (p : Plan Event) (m : ℕ) → m ≤ p.until → p.early m ++ p.late m ≡ planned p m
planned-now p m in_time = sym (ap (λ b. if b then p.early m ++ p.late m else []) (le-leb m p.until in_time))

-- the events of an instant, as they are asked for a moment
abbrev told_here : Plan Event → ℕ → ℕ → List Event
told_here p now m = if now == m then p.early now ++ p.late now else []

here-is : (p : Plan Event) (now m : ℕ) → now ≡ m → now ≤ p.until → told_here p now m ≡ planned p m
here-is p now m same in_time =
    ap (λ b. if b then p.early now ++ p.late now else []) (eq-eqb now m same) ∙ ap (λ n. p.early n ++ p.late n) same ∙ planned-now p m (omega (arith, same, in_time))

here-not : (p : Plan Event) (now m : ℕ) → now < m → told_here p now m ≡ []
here-not p now m other = ap (λ b. if b then p.early now ++ p.late now else []) (ne_eqb now m (λ same. absurd (omega (arith, same, other))))

-- between an instant and the next one nothing is planned
none-between : (p : Plan Event) → IsTold p → (now m : ℕ) (w : World) → w.now ≡ now → now < m → Skips m (next p now (dues w) (next_change w)) → [] ≡ planned p m
none-between p told now m w same before skips =
    planned-none p m (λ in_time. told.none now m before
    (later-skips p now m (dues w) (next_change w) (told.later now) (subst (λ n. LiesAfter n (next_change w)) same (after-next_change w)) in_time skips))

-- where a run begins an instant, what comes from outside is what is planned, if that is so of the rest
outside-from : (p : Plan Event) → IsTold p → (m now : ℕ) (w c d v : World) (t : Option ℕ) (here es : List Event) (k : ℕ) → now ≤ p.until → now ≤ m → c.now ≡ now
    → t ≡ next p now (dues c) (next_change c) → Leads bus w here d → outside m w here ≡ told_here p now m
    → ((at : ℕ) → t ≡ Some at → (d.now ≡ at) × (now < at) × (at ≤ p.until))
    → ((at : ℕ) (ys : List Event) → t ≡ Some at → run k bus p at d ≡ Some (Ok (v, ys)) → at ≤ m → outside m d ys ≡ planned p m)
    → ending t here d (run k bus p) ≡ Some (Ok (v, es)) → outside m w es ≡ planned p m
outside-from p told m now w c d v None here es k in_time since at_c next_is leads is clock rest some =
    let a : World × List Event = (d, here) in
    let b : World × List Event = (v, es) in
    let same : a ≡ b = cc in
    ap (outside m w) (ap (λ (x : World × List Event). x.1) (sym same)) ∙ is ∙ by (now == m) refl
  where
    by : (x : Bool) → (now == m) ≡ x → told_here p now m ≡ planned p m
    by true same = here-is p now m (eqb-true now m same) in_time
    by false other =
        let differs = eqb-false now m other in
        let before : now < m = omega (arith, since, differs) in
        here-not p now m before ∙ none-between p told now m c at_c before (subst (Skips m) next_is tt)
outside-from p told m now w c d v (Some at) here es k in_time since at_c next_is leads is clock rest some =
    let e = ended here (run k bus p at d) v es some in
    let at_d = clock at refl in
    ap (outside m w) e.2 ∙ outside-append m here e.0 w d leads ∙ ap (λ xs. xs ++ outside m d e.0) is ∙ by (nat_le at m) refl
  where
    by : (x : Bool) → nat_le at m ≡ x → told_here p now m ++ outside m d (ended here (run k bus p at d) v es some).0 ≡ planned p m
    by true reached =
        let e = ended here (run k bus p at d) v es some in
        let at_d = clock at refl in
        ap (λ xs. xs ++ outside m d e.0) (here-not p now m (omega (arith, at_d.1, leb-true at m reached))) ∙ rest at e.0 refl e.1 (leb-true at m reached)
    by false before =
        let e = ended here (run k bus p at d) v es some in
        let at_d = clock at refl in
        let early : m < at = leb-false at m before in
        let none : outside m d e.0 ≡ [] = outside-before m e.0 d v (run-leads k bus p at d v e.0 e.1) (omega (arith, at_d.0, early)) in
        ap (λ xs. told_here p now m ++ xs) none ∙ append-nil (told_here p now m) ∙ within (now == m) refl
      where
        within : (x : Bool) → (now == m) ≡ x → told_here p now m ≡ planned p m
        within true same = here-is p now m (eqb-true now m same) in_time
        within false other =
            let differs = eqb-false now m other in
            let later : now < m = omega (arith, since, differs) in
            here-not p now m later ∙ none-between p told now m c at_c later (subst (Skips m) next_is (leb-false at m before))

-- from an instant on, what comes from outside at a moment is what is planned for it
outside-run : (k : ℕ) (p : Plan Event) → IsTold p → (m now : ℕ) (w v : World) (es : List Event) → w.now ≡ now → now ≤ p.until → now ≤ m → run k bus p now w ≡ Some (Ok (v, es))
    → outside m w es ≡ planned p m
unfolding run
outside-run zero p told m now w v es same in_time since some = absurd cc
outside-run (suc k) p told m now w v es same in_time since some =
    let a = on_ok-some (all bus now (p.early now) w) _ (v, es) some in
    let b = on_ok-some (all bus now (turns bus p now a.0) a.0) _ (v, es) a.2 in
    let c = on_ok-some (all bus now (p.late now) b.0) _ (v, es) b.2 in
    let t = next p now (dues c.0) (next_change c.0) in
    let d = on_ok-some (all bus now (passing bus p now t) c.0) _ (v, es) c.2 in
    let here = instant bus p now a.0 c.0 in
    let one = all-leads bus now (p.early now) w a.0 a.1 in
    let two = all-leads bus now (turns bus p now a.0) a.0 b.0 b.1 in
    let three = all-leads bus now (p.late now) b.0 c.0 c.1 in
    let four = all-leads bus now (passing bus p now t) c.0 d.0 d.1 in
    let is = outside-instant m p now (places 0 (wanted p now 0 (dues a.0))) t w a.0 b.0 c.0 d.0 same (told.early now) (told.late now) one two three four in
    let leads = join bus (p.early now) (turns bus p now a.0 ++ (p.late now ++ passing bus p now t)) w a.0 d.0 one
    (join bus (turns bus p now a.0) (p.late now ++ passing bus p now t) a.0 b.0 d.0 two (join bus (p.late now) (passing bus p now t) b.0 c.0 d.0 three four)) in
    let bounds = λ (at : ℕ) (some_at : t ≡ Some at). onward-some p now (earlier (p.later now) (earlier (next_change c.0) (next_turn p now 0 (dues c.0)))) at some_at in
    let clock : (at : ℕ) → t ≡ Some at → (d.0.now ≡ at) × (now < at) × (at ≤ p.until) = λ at some_at. (clock-passing p now at c.0 d.0 is.1 (bounds at some_at).0 (subst (λ o. Leads bus c.0 (passing bus p now o) d.0) some_at four), (bounds at some_at).0, (bounds at some_at).1) in
    outside-from p told m now w c.0 d.0 v t here es k in_time since is.1 refl leads is.0 clock
    (λ at ys some_at more reached. outside-run k p told m at d.0 v ys (clock at some_at).0 (clock at some_at).2 reached more) d.2

-- ---- the plan of a scenario

outside-early : (now : ℕ) (steps : List Planned) → AreFromOutside steps → AllOutside (filter_map (early_of now) steps)
outside-early now [] are = tt
outside-early now (s ∷ steps) are = by (outside-early now steps are.1) (s.at == now) s.deed are.0
  where
    by : AllOutside (filter_map (early_of now) steps) → (b : Bool) (deed : Deed) → deed_is_from_outside deed ≡ true → AllOutside (cons_option (if b then event_before deed else None) (filter_map (early_of now) steps))
    by more false deed is = more
    by more true (Withhold tap bits) is = more
    by more true (Happens e) is =
        by_test (λ (o : Option Event). AllOutside (cons_option o (filter_map (early_of now) steps))) (is_late e) None (Some e) (λ _. more) (λ _. (is, more))

outside-late : (now : ℕ) (steps : List Planned) → AreFromOutside steps → AllOutside (filter_map (late_of now) steps)
outside-late now [] are = tt
outside-late now (s ∷ steps) are = by (outside-late now steps are.1) (s.at == now) s.deed are.0
  where
    by : AllOutside (filter_map (late_of now) steps) → (b : Bool) (deed : Deed) → deed_is_from_outside deed ≡ true → AllOutside (cons_option (if b then event_after deed else None) (filter_map (late_of now) steps))
    by more false deed is = more
    by more true (Withhold tap bits) is = more
    by more true (Happens e) is =
        by_test (λ (o : Option Event). AllOutside (cons_option o (filter_map (late_of now) steps))) (is_late e) (Some e) None (λ _. (is, more)) (λ _. more)

-- a step whose moment isn't now says nothing now
not-now : (now m : ℕ) (s : Planned) → now < m → LiesAfter m (after now (Some s.at)) → (s.at == m) ≡ false
not-now now m s before later = ne_eqb s.at m (λ same. absurd (wrong (subst (λ (n : ℕ). LiesAfter m (if nat_lt now n then Some n else None)) same later)))
  where
    wrong : LiesAfter m (if nat_lt now m then Some m else None) → ⊥
    wrong later = let less : m < m = subst (λ (b : Bool). LiesAfter m (if b then Some m else None)) (lt-ltb now m before) later in omega (arith, less)

none-early : (now m : ℕ) (steps : List Planned) → now < m → LiesAfter m (next_step steps now) → (filter_map (early_of m) steps ≡ []) × (filter_map (late_of m) steps ≡ [])
none-early now m [] before later = (refl, refl)
none-early now m (s ∷ steps) before later =
    let both = later-earlier m (after now (Some s.at)) (next_step steps now) later in
    let no = not-now now m s before both.0 in
    let more = none-early now m steps before both.1 in (
      ap (λ b. cons_option (if b then event_before s.deed else None) (filter_map (early_of m) steps)) no ∙ more.0,
      ap (λ b. cons_option (if b then event_after s.deed else None) (filter_map (late_of m) steps)) no ∙ more.1,
    )

plan-told : (steps : List Planned) (until : ℕ) → AreFromOutside steps → IsTold (plan_of steps until)
plan-told steps until are = record {
  early = λ now. outside-early now steps are;
  late = λ now. outside-late now steps are;
  later = λ now. after-next_step steps now;
  none = λ now m before later. none-early now m steps before later;
}

-- what comes from outside in a run from 0
pub outside-scenario : (k : ℕ) (steps : List Planned) (until : ℕ) → AreFromOutside steps → (w v : World) (es : List Event) → w.now ≡ 0 → run k bus (plan_of steps until) 0 w ≡ Some (Ok (v, es))
    → (m : ℕ) → filter_map (outside_at m) (timed w es) ≡ (if nat_le m until then filter_map (early_of m) steps ++ filter_map (late_of m) steps else [])
outside-scenario k steps until are w v es same some m =
    outside-run k (plan_of steps until) (plan-told steps until are) m 0 w v es same (omega arith) (omega arith) some
