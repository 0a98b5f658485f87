-- What a handle owns: nothing at null, and else the box of a port.
use Rattle.std.specs.Prelude.{Option, Some, None}
use base.Fml.{Fml, ftrue, ffalse}
use mir.Syntax.{Ty}
use denote.RawPtr.{Ptr, block_ptr, null_ptr}
use Rattle.std.specs.contracts.impls.GlobalAllocator.TheImpl.{ghosts}
use Rattle.std.specs.Box.Ownership.{box_owns}
use Rattle.pb_port.specs.Ports.{PortView}
use Rattle.pb_port.specs.contracts.ports.Port.{the_row}

-- the right to free a block, which is the same for every `Global`
abbrev pub chunk : Ty → Ptr → Fml
chunk = ghosts.dealloc_token (record { memory = record { seal = tt } })

abbrev pub handle_owns : Ptr → Option PortView → Fml
handle_owns null_ptr None = ftrue
handle_owns null_ptr (Some x) = ffalse
handle_owns (block_ptr b o) None = ffalse
handle_owns (block_ptr b o) (Some x) = box_owns chunk the_row (block_ptr b o) x
