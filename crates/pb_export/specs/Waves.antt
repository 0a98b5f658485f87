-- A dump that is written piece by piece, with the entries that are over.
use Rattle.std.specs.Prelude.{◌≡◌, ℕ, zero, suc, ◌+◌, ◌-◌, ◌<◌, ◌≤◌, Bool, true, nat_le, nat_lt, ◌&&◌, ◌||◌, min, max, List, [], ◌∷◌, ◌++◌, length, take, drop, Option, None}
use Rattle.law_model.specs.Trace.{Entry, entry_begin, entry_end}
use Rattle.pb_export.specs.declared.options.Window.{Window}
use Rattle.pb_export.specs.declared.levels.Level.{Level}
use Rattle.pb_export.specs.declared.levels.Level.TheVariants.{High}
use Rattle.pb_export.specs.declared.dumps.Dump.{Dump}
use Rattle.pb_export.specs.declared.dumps.Waves.{Waves}
use Rattle.pb_export.specs.Levels.{bus_at}
use Rattle.pb_export.specs.Times.{end_of_time, last_end}
use Rattle.pb_export.specs.Vcd.{moments, named_at, stamp}

-- ---- entries at a moment

-- each has ended by a moment
abbrev pub AreOver : ℕ → List Entry → Type 0
AreOver t [] = Unit {0}
AreOver t (e ∷ es) = (entry_end e ≤ t) × AreOver t es

-- each begins after a moment
abbrev pub AreToCome : ℕ → List Entry → Type 0
AreToCome t [] = Unit {0}
AreToCome t (e ∷ es) = (t < entry_begin e) × AreToCome t es

-- each begins no earlier than a moment
abbrev pub are_since : ℕ → List Entry → Bool
are_since t [] = true
are_since t (e ∷ es) = nat_le t (entry_begin e) && are_since t es

-- the latest of a moment and of the ends of entries
abbrev pub latest_end : ℕ → List Entry → ℕ
latest_end last [] = last
latest_end last (e ∷ es) = latest_end (max last (entry_end e)) es

-- ---- what is said of the bus after so many moments from one on

abbrev pub level_behind : Window → List Entry → Level → ℕ → ℕ → Level
level_behind w es level t zero = level
level_behind w es level t (suc n) = level_behind w es (bus_at w es t) (t + 1) n

-- the name, where the first of the entries has an index
abbrev pub named_behind : Window → (place : ℕ) → List Entry → Option ℕ → ℕ → ℕ → Option ℕ
named_behind w place es named t zero = named
named_behind w place es named t (suc n) = named_behind w place es (named_at w place es t) (t + 1) n

-- ---- a dump of which some is written

-- nothing is
pub record IsBegun (w : Window) (until : ℕ) (d : Waves) : Type 0 where
  pub level : d.level ≡ High
  pub named : d.named ≡ None
  pub gone : d.gone ≡ 0
  pub next : d.next ≡ w.from
  pub last : d.last ≡ max w.from (min w.until until)

-- the rest of it, with the entries still to come
abbrev pub waves_from : Dump → Waves → List Entry → List ℕ
waves_from x d es =
    let last = min end_of_time (last_end x.window d.last es) in
    moments x.baud x.strings x.window d.gone es d.level d.named d.next (last + 1 - d.next)
    ++ stamp x.baud last

-- ---- entries that are over

-- how many entries a dump may have had before its last ones
abbrev pub most : ℕ
most = 1000000000000

-- the dump may be written up to the latest end of some entries, whatever begins no earlier: that is a moment of the dump, or
-- what begins no earlier is not shown
abbrev pub is_closed : Window → Waves → List Entry → Bool
is_closed w d es =
    nat_le (d.gone + length es) most && (nat_le (latest_end 0 es) (last_end w d.last es) || nat_lt w.until (latest_end 0 es))

-- and the others behind so many of some entries begin no earlier
abbrev pub may_go : Window → Waves → (over : ℕ) → List Entry → Bool
may_go w d over es = is_closed w d (take over es) && are_since (latest_end 0 (take over es)) (drop over es)

-- some bytes are appended, and the dump goes on behind some entries
pub record GoesOn (x : Dump) (old new : Waves) (es : List Entry) (before after : List ℕ) : Type 0 where
  pub text : List ℕ
  pub bytes : after ≡ before ++ text
  pub rest : is_closed x.window old es ≡ true → (later : List Entry) → are_since (latest_end 0 es) later ≡ true
      → text ++ waves_from x new later ≡ waves_from x old (es ++ later)
