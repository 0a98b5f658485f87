-- What a handle of a bus owns: nothing at null, and else the box of a bus.
use Rattle.std.specs.Prelude.{Option, Some, None}
use base.Fml.{Fml, ftrue, ffalse}
use denote.RawPtr.{Ptr, block_ptr, null_ptr}
use Rattle.std.specs.Box.Ownership.{box_owns}
use Rattle.pb_port.specs.Owned.{chunk}
use Rattle.pb_world.specs.declared.driven.Driven.{Driven}
use Rattle.pb_world.specs.contracts.driven.DrivenBus.{the_row}

abbrev pub handle_owns : Ptr → Option Driven → Fml
handle_owns null_ptr None = ftrue
handle_owns null_ptr (Some x) = ffalse
handle_owns (block_ptr b o) None = ffalse
handle_owns (block_ptr b o) (Some x) = box_owns chunk the_row (block_ptr b o) x
