-- The tables as plain data.
use Rattle.std.specs.Prelude.{ℕ, List, Option}
use Rattle.pb_telegram.specs.declared.control.FrameCount.{FrameCount}
use Rattle.pb_cycles.specs.declared.initiators.OpenRequest.{OpenRequest}
use Rattle.pb_cycles.specs.declared.responders.Kept.{Kept}

-- the number of retries of a request, the next frame count bits for each address, and the open request
pub record InitiatorTable : Type 0 where
  pub retries : ℕ
  pub counts : List FrameCount
  pub pending : Option OpenRequest

-- the reply data, what is kept of the last SDA or SRD, and how many requests were executed
pub record ResponderTable : Type 0 where
  pub reply : List ℕ
  pub kept : Option Kept
  pub executed : ℕ
