-- The characters that C has received.
use Rattle.std.specs.Prelude.{List, map, take}
use Rattle.pb_telegram.specs.declared.chars.RxChar.{RxChar}
use Rattle.pbfdl.specs.Calls.{character_of}
use Rattle.pbfdl.specs.declared.receivers.FdlReceiver.{FdlReceiver}

abbrev pub heard : FdlReceiver → List RxChar
heard r = map character_of (take r.count r.characters)
