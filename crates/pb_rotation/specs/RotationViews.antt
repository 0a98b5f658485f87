-- A rotation and its receipt as plain data.
use Rattle.std.specs.Option.{option_map}
use Rattle.pb_rotation.specs.declared.rotations.Receipt as code
use Rattle.pb_rotation.specs.declared.rotations.Rotation.TheInside.{Inside}
use Rattle.pb_rotation.specs.Rotation as model

abbrev pub receipt_of : code.Receipt → model.Receipt
receipt_of r = record { previous = r.previous; at = r.at; high = r.high }

abbrev pub receipt_inside : model.Receipt → code.Receipt
receipt_inside r = record { previous = r.previous; at = r.at; high = r.high }

abbrev pub rotation_of : Inside → model.Rotation
rotation_of r = record { ttr = r.ttr; last = option_map receipt_of r.last }

abbrev pub rotation_inside : model.Rotation → Inside
rotation_inside r = record { ttr = r.ttr; last = option_map receipt_inside r.last }
