-- A pass tells a tap of a burst that begins, then of one that ends.
use Rattle.std.proofs.Common.{◌≡◌, ℕ, ◌≤◌, ◌+◌, List, ◌++◌, true, ◌∙◌, ap, sym, map, length, arith, length-append, append_assoc, Option}
use Rattle.law_model.specs.World.{mark_limit}
use Rattle.law_turn.specs.Marks.{Mark}
use Rattle.law_model.specs.Trace.{Entry}
use Rattle.law_model.specs.Laws.{begin_of}
use Rattle.law_model.specs.Medium.{sensed, new_marks}
use Rattle.pb_taps.specs.declared.taps.Tap.{Tap}
use Rattle.pb_medium.specs.Entries.{entry_of}
use Rattle.pb_medium.specs.Senses.{begin_between, end_between}
use Rattle.pb_world.specs.Passes.{end_of, unread_after, with_begin, with_end, with_news}
use Rattle.pb_taps.specs.Taps.{tap_of}
use Rattle.pb_world.proofs.Passing.{told-running, end-unread}
use Rattle.pb_world.proofs.passes.tell.Goals as goal

-- what a tap that runs is told, once it is known when a burst begins and when one ends
record Told (delay : ℕ) (position : ℕ) (old : Tap) (trace : List Entry) (from to : ℕ) (begin end : Option ℕ) : Type 0 where
  pub runs : old.running ≡ true
  pub begins : begin ≡ begin_between (sensed delay position old.since trace) from to
  pub ends : end ≡ end_between (sensed delay position old.since trace) from to

news : (delay position : ℕ) (old : Tap) (trace : List Entry) (from to : ℕ) (begin end : Option ℕ) → Told delay position old trace from to begin end
    → new_marks delay position (tap_of old) trace from to ≡ begin_of to begin ++ end_of delay position (tap_of old) trace to end
news delay position old trace from to begin end t = told-running delay position (tap_of old) trace from to begin end t.runs t.begins t.ends

room : (delay position : ℕ) (old : Tap) (trace : List Entry) (from to : ℕ) (begin end : Option ℕ) → Told delay position old trace from to begin end
    → unread_after delay position (tap_of old) trace from to ≤ mark_limit
    → length old.marks + length (begin_of to begin) + length (end_of delay position (tap_of old) trace to end) ≤ mark_limit
room delay position old trace from to begin end t fits =
    omega (arith, fits, ap (λ (ms : List Mark). length ms) (news delay position old trace from to begin end t), length-append (begin_of to begin) (end_of delay position (tap_of old) trace to end))

room-for-end : (delay position : ℕ) (old now : Tap) (trace : List Entry) (from to : ℕ) (begin end : Option ℕ) → Told delay position old trace from to begin end → now ≡ with_begin old to begin
    → unread_after delay position (tap_of old) trace from to ≤ mark_limit → length now.marks + length (end_of delay position (tap_of now) trace to end) ≤ mark_limit
room-for-end delay position old now trace from to begin end t is fits =
    let ms = old.marks ++ begin_of to begin in
    omega (
      arith,
      room delay position old trace from to begin end t fits,
      ap (λ (x : Tap). length x.marks) is,
      length-append old.marks (begin_of to begin),
      ap (λ (ns : List Mark). length ns) (ap (λ (x : Tap). end_of delay position (tap_of x) trace to end) is ∙ end-unread delay position (tap_of old) ms trace to end),
    )

told-both : (delay position : ℕ) (old now next : Tap) (trace : List Entry) (from to : ℕ) (begin end : Option ℕ) → Told delay position old trace from to begin end → now ≡ with_begin old to begin
    → next ≡ with_end delay position now trace to end → tap_of next ≡ with_news delay position (tap_of old) trace from to
told-both delay position old now next trace from to begin end t is is' =
    let ms = old.marks ++ begin_of to begin in
    let ends = end_of delay position (tap_of old) trace to end in
    ap tap_of is' ∙ ap (λ (x : Tap). tap_of (with_end delay position x trace to end)) is
    ∙ ap (λ (ns : List Mark). record (tap_of old) { marks = ms ++ ns }) (end-unread delay position (tap_of old) ms trace to end)
    ∙ ap (λ (ns : List Mark). record (tap_of old) { marks = ns }) (append_assoc old.marks (begin_of to begin) ends)
    ∙ ap (λ (ns : List Mark). record (tap_of old) { marks = old.marks ++ ns }) (sym (news delay position old trace from to begin end t))

pub tell_begin-requires : goal.tell_begin-requires
tell_begin-requires c =
    let t : Told c.args.delay c.args.position c.args.tap.now (map entry_of c.args.entries.now) c.args.from c.args.to c.begin_in-begin.result c.end_in-end.result
    = record { runs = c.if-not-tap.false; begins = c.begin_in-begin.ensures; ends = c.end_in-end.ensures } in
    omega (arith, room c.args.delay c.args.position c.args.tap.now (map entry_of c.args.entries.now) c.args.from c.args.to c.begin_in-begin.result c.end_in-end.result t c.requires)

pub tell_end-requires : goal.tell_end-requires
tell_end-requires c =
    let t : Told c.args.delay c.args.position c.args.tap.now (map entry_of c.args.entries.now) c.args.from c.args.to c.begin_in-begin.result c.end_in-end.result
    = record { runs = c.if-not-tap.false; begins = c.begin_in-begin.ensures; ends = c.end_in-end.ensures } in
    room-for-end c.args.delay c.args.position c.args.tap.now c.tell_begin.new.tap (map entry_of c.args.entries.now) c.args.from c.args.to c.begin_in-begin.result c.end_in-end.result t c.tell_begin.ensures c.requires

pub returns-clause-told : goal.returns-clause-told
returns-clause-told c =
    let t : Told c.args.delay c.args.position c.args.tap.now (map entry_of c.args.entries.now) c.args.from c.args.to c.begin_in-begin.result c.end_in-end.result
    = record { runs = c.if-not-tap.false; begins = c.begin_in-begin.ensures; ends = c.end_in-end.ensures } in
    told-both c.args.delay c.args.position c.args.tap.now c.tell_begin.new.tap c.tell_end.new.tap (map entry_of c.args.entries.now) c.args.from c.args.to c.begin_in-begin.result c.end_in-end.result t
    c.tell_begin.ensures c.tell_end.ensures
