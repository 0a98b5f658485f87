-- What the program may be asked.
use Rattle.std.specs.Prelude.{◌≤◌, IfSome}
use Rattle.pb_stream.specs.Streams.{stream_end}
use Rattle.pb_cli.specs.Bounding.{IsBaud}
use Rattle.pb_cli.specs.Playing.{IsUpTo, line_limit, worker_limit}
use Rattle.pb_export.specs.declared.captures.CaptureExport.{CaptureExport}
use Rattle.pb_cli.specs.declared.words.Ask.{Ask}
use Rattle.pb_cli.specs.declared.words.Ask.TheVariants.{Decode, Run, Audit, Bounds, Monitor, Capture, Export, Stream, Version}

abbrev pub IsWithinLimits : Ask → Type 0
IsWithinLimits Decode = Unit {0}
IsWithinLimits (Run file workers last) = IsUpTo worker_limit workers × IsUpTo line_limit last
IsWithinLimits (Audit file) = Unit {0}
IsWithinLimits Version = Unit {0}
IsWithinLimits (Bounds file baud json) = IsBaud baud
IsWithinLimits (Monitor file options export) = IfSome export (λ x. IsBaud x.baud)
IsWithinLimits (Capture file tap) = Unit {0}
IsWithinLimits (Export file export) = IsBaud export.baud
IsWithinLimits (Stream file until progress audit) = IfSome until (λ moment. moment ≤ stream_end)
