use Rattle.law_turn.proofs.Standing.{stands-turn_of, stands-started, stands-stopped, stands-pushed}
use Rattle.law_turn.proofs.laws.the_tables_stand_for_what_was_heard_asked_and_received.Goals as goal

pub returns-clause-started : goal.returns-clause-started
returns-clause-started c = stands-started

pub returns-clause-turn : goal.returns-clause-turn
returns-clause-turn c p s marks now past highest reply cycles stands = stands-turn_of p s marks now past highest (reply, cycles) stands

pub returns-clause-stopped : goal.returns-clause-stopped
returns-clause-stopped c = stands-stopped

pub returns-clause-pushed : goal.returns-clause-pushed
returns-clause-pushed c = stands-pushed
