-- The requests that wait, as plain data.
use Rattle.std.specs.Prelude.{nat_lt, if◌then◌else◌, List, [], ◌∷◌, ◌++◌, length, take, drop}
use Rattle.pb_cycles.specs.RequestFields.{RequestFields}

-- a list for each priority
pub record Queued : Type 0 where
  pub high : List RequestFields
  pub low : List RequestFields

-- a request is appended to a list, or one is taken
pub data Use : Type 0 where
  Put : RequestFields → Use
  TakeOut : Use

-- a list holds at most 16 requests
abbrev pub put : List RequestFields → RequestFields → List RequestFields
put xs r = if nat_lt (length xs) 16 then xs ++ r ∷ [] else xs

-- the requests that wait after all uses
abbrev pub waiting : List RequestFields → List Use → List RequestFields
waiting xs [] = xs
waiting xs (Put r ∷ uses) = waiting (put xs r) uses
waiting xs (TakeOut ∷ uses) = waiting (drop 1 xs) uses

-- the requests that were appended and not refused, in order
abbrev pub accepted : List RequestFields → List Use → List RequestFields
accepted xs [] = []
accepted xs (Put r ∷ uses) = (if nat_lt (length xs) 16 then r ∷ [] else []) ++ accepted (put xs r) uses
accepted xs (TakeOut ∷ uses) = accepted (drop 1 xs) uses

-- the requests that were taken, in order
abbrev pub taken : List RequestFields → List Use → List RequestFields
taken xs [] = []
taken xs (Put r ∷ uses) = taken (put xs r) uses
taken xs (TakeOut ∷ uses) = take 1 xs ++ taken (drop 1 xs) uses
