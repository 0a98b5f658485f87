-- The counts of a reader or writer.
use Rattle.std.specs.Prelude.{ℕ}
use Rattle.pb_cli.specs.declared.counted_reader.CountedReader.{CountedReader}
use Rattle.pb_cli.specs.declared.counted_writer.CountedWriter.{CountedWriter}

-- a reader with all counts 0
abbrev pub counted_reader : {R : Type 0} → R → CountedReader R
counted_reader reader = record { reader = reader; calls = 0; interruptions = 0; failures = 0 }

abbrev pub calls_of : {R : Type 0} → CountedReader R → ℕ
calls_of counted = counted.calls

abbrev pub reader_failures : {R : Type 0} → CountedReader R → ℕ
reader_failures counted = counted.failures

-- a writer with all counts 0
abbrev pub counted_writer : {W : Type 0} → W → CountedWriter W
counted_writer writer = record { writer = writer; interruptions = 0; in_a_row = 0; failures = 0 }

abbrev pub interruptions_of : {W : Type 0} → CountedWriter W → ℕ
interruptions_of counted = counted.interruptions

abbrev pub writer_failures : {W : Type 0} → CountedWriter W → ℕ
writer_failures counted = counted.failures

abbrev pub inner_writer : {W : Type 0} → CountedWriter W → W
inner_writer counted = counted.writer
