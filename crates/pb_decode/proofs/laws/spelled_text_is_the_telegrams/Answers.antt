use Rattle.pb_telegram.specs.Faults.{octets, fault_of}
use Rattle.pb_decode.proofs.SpelledText.{text_unless_fault-spelling}
use Rattle.pb_decode.proofs.laws.spelled_text_is_the_telegrams.Goals as goal

pub returns : goal.returns
returns c = λ chars t spelled.
    text_unless_fault-spelling c.spelled_unit_is_the_telegrams.ensures.var c.spelled_unit_is_the_telegrams.ensures.fixed (fault_of chars) (octets chars) t
    (c.what_is_spelled_has_no_fault.ensures.no_fault chars t spelled) (c.what_is_spelled_has_no_fault.ensures.octets chars t spelled)
