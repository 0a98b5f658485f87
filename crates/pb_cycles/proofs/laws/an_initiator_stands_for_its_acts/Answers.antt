use Rattle.std.proofs.Common.{ℕ, ◌≤◌, refl, arith}
use Rattle.std.proofs.lemmas.List.{get_or-replicate}
use Rattle.pb_cycles.proofs.Acting.{requested, closed}
use Rattle.pb_telegram.specs.declared.control.FrameCount.TheVariants.{First}
use Rattle.pb_cycles.proofs.laws.an_initiator_stands_for_its_acts.Goals as goal

pub returns-clause-fresh : goal.returns-clause-fresh
returns-clause-fresh c = λ (retries : ℕ). record {
  stations = refl;
  counts = λ (d : ℕ) (h : d ≤ 126). get_or-replicate 127 d First First (omega arith);
  pending = refl;
  left = tt;
}

pub returns-clause-request : goal.returns-clause-request
returns-clause-request c = requested

pub returns-clause-outcome : goal.returns-clause-outcome
returns-clause-outcome c = closed
