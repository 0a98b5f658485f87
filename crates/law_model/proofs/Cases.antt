-- Choices by tests, as for a turn.
pub use Rattle.law_turn.proofs.Cases.{by_test}
