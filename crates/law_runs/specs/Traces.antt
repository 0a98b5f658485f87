-- Traces written by hand: what two or three stations may have sent.
use Rattle.std.specs.Prelude.{ℕ, ◌+◌, List, [], ◌∷◌, length, map, Option}
use Rattle.pb_timers.specs.Timers.{Params, bits}
use Rattle.law_model.specs.Trace as trace
use Rattle.law_model.specs.Trace.{Heard, Own, Whole, Damaged, Unheard, Entry, Sent}
use Rattle.law_model.specs.Medium.{TapSpec}
use Rattle.law_model.specs.Scenarios.{example_bus, master}
use Rattle.law_runs.specs.Legality.{first_illegal}
use Rattle.law_runs.specs.Naming.{named}

abbrev pub three_masters : List TapSpec
three_masters = master 1 ∷ master 2 ∷ master 3 ∷ []

abbrev pub illegal_on : Params → List Entry → Option ℕ
illegal_on p trace = first_illegal p three_masters trace

abbrev pub illegal_in : List Entry → Option ℕ
illegal_in trace = illegal_on example_bus trace

abbrev pub named_at : List ℕ → List Entry → List (Option ℕ)
named_at moments trace = map (named example_bus three_masters trace) moments

-- ---- telegrams

abbrev pub token : (da sa : ℕ) → List ℕ
token da sa = 0xdc ∷ da ∷ sa ∷ []

-- a request for a status
abbrev pub question : (da sa : ℕ) → List ℕ
question da sa = 0x10 ∷ da ∷ sa ∷ 0x49 ∷ (da + sa + 0x49) ∷ 0x16 ∷ []

-- its answer
abbrev pub answer : (da sa : ℕ) → List ℕ
answer da sa = 0x10 ∷ da ∷ sa ∷ 0x20 ∷ (da + sa + 0x20) ∷ 0x16 ∷ []

abbrev pub acknowledgement : List ℕ
acknowledgement = 0xe5 ∷ []

-- octets that are no telegram
abbrev pub scrap : List ℕ
scrap = 0 ∷ []

-- ---- entries

-- what a tap sends from a moment on, as each tap receives it
abbrev pub heard_as : List Heard → ℕ → ℕ → List ℕ → Entry
heard_as heard tap begin octets = Sent (record { tap = tap; octets = octets; begin = begin; end = begin + bits (length octets); hits = []; heard = heard })

abbrev pub by_first : ℕ → List ℕ → Entry
by_first begin octets = heard_as (Own ∷ Whole ∷ Whole ∷ []) 0 begin octets

abbrev pub by_second : ℕ → List ℕ → Entry
by_second begin octets = heard_as (Whole ∷ Own ∷ Whole ∷ []) 1 begin octets

abbrev pub by_third : ℕ → List ℕ → Entry
by_third begin octets = heard_as (Whole ∷ Whole ∷ Own ∷ []) 2 begin octets

abbrev pub noise : (begin end : ℕ) → Entry
noise begin end = trace.Noise (record { begin = begin; end = end })

-- ---- beginnings of traces

-- the first claims the token, until 833
abbrev pub claimed : List Entry → List Entry
claimed es = by_first 800 (token 1 1) ∷ es

-- then it passes the token to the second, until 903
abbrev pub passed : List Entry → List Entry
passed es = claimed (by_first 870 (token 2 1) ∷ es)

-- the same; the second receives it as given, and the third receives it whole
abbrev pub passed_as : Heard → List Entry → List Entry
passed_as heard es = claimed (heard_as (Own ∷ heard ∷ Whole ∷ []) 0 870 (token 2 1) ∷ es)

-- then the second takes it
abbrev pub takes_at : ℕ → Entry
takes_at begin = by_second begin (question 3 2)
