-- What a summary says of alarms.
use Rattle.std.specs.Prelude.{ℕ, Bool, true, false, not, ◌||◌, if◌then◌else◌, List, ◌++◌, codes, decimal, Option, Some, None}
use Rattle.pb_monitor.specs.declared.alarms.Classes.{Classes}
use Rattle.pb_monitor.specs.declared.formats.Form.{Form}
use Rattle.pb_monitor.specs.declared.formats.Form.TheVariants.{Lines, Raw, Pcap}
use Rattle.pb_monitor.specs.declared.formats.Unjudged.{Unjudged}
use Rattle.pb_monitor.specs.declared.formats.Unjudged.TheVariants.{NoParameters, RawOctets, NoClass, NoMoments}

-- why no telegram of a capture is judged, if none is, once the parameters of the bus are known
abbrev pub unjudged_classes : Classes → (moments : Bool) → Option Unjudged
unjudged_classes c moments =
    if c.legality then None
    else if not (c.loss || c.timing) then Some NoClass
    else if moments then None
    else Some NoMoments

abbrev pub unjudged_form : Form → Classes → (moments : Bool) → Option Unjudged
unjudged_form Lines c moments = unjudged_classes c moments
unjudged_form Raw c moments = Some RawOctets
unjudged_form Pcap c moments = unjudged_classes c moments

abbrev pub unjudged_by : (known : Bool) → Form → Classes → (moments : Bool) → Option Unjudged
unjudged_by true form c moments = unjudged_form form c moments
unjudged_by false form c moments = Some NoParameters

abbrev pub unjudged_words : Unjudged → List ℕ
unjudged_words NoParameters = codes "alarms not judged (no parameters)"
unjudged_words RawOctets = codes "alarms not judged (raw octets)"
unjudged_words NoClass = codes "alarms not judged (no class chosen)"
unjudged_words NoMoments = codes "alarms not judged (no moments)"

-- how many alarms there were, or why none could be
abbrev pub alarms_text : Option Unjudged → (count : ℕ) → List ℕ
alarms_text None count = codes "alarms " ++ decimal count
alarms_text (Some why) count = unjudged_words why

-- the same for programs
abbrev pub alarms_json : Option Unjudged → (count : ℕ) → List ℕ
alarms_json None count = decimal count
alarms_json (Some why) count = codes "null"
