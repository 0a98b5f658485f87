-- What a handle of a monitor owns: nothing at null, and else the box of a monitor.
use Rattle.std.specs.Prelude.{Option, Some, None}
use base.Fml.{Fml, ftrue, ffalse}
use denote.RawPtr.{Ptr, block_ptr, null_ptr}
use Rattle.std.specs.Box.Ownership.{box_owns}
use Rattle.pb_port.specs.Owned.{chunk}
use Rattle.pbfdl.specs.Monitors.{Listened}
use Rattle.pbfdl.specs.contracts.listeners.Listener.{the_row}

abbrev pub handle_owns : Ptr → Option Listened → Fml
handle_owns null_ptr None = ftrue
handle_owns null_ptr (Some x) = ffalse
handle_owns (block_ptr b o) None = ffalse
handle_owns (block_ptr b o) (Some x) = box_owns chunk the_row (block_ptr b o) x
