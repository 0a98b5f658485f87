-- An entry of the trace as the model's plain data.
use Rattle.std.specs.Prelude.{map}
use Rattle.law_model.specs.Trace as model
use Rattle.pb_medium.specs.declared.entries.Heard.{Heard}
use Rattle.pb_medium.specs.declared.entries.Heard.TheVariants as heard
use Rattle.pb_medium.specs.declared.entries.Hit.{Hit}
use Rattle.pb_medium.specs.declared.entries.Record.{Record}
use Rattle.pb_medium.specs.declared.entries.Entry.{Entry}
use Rattle.pb_medium.specs.declared.entries.Entry.TheVariants as entry

abbrev pub heard_of : Heard → model.Heard
heard_of heard.Own = model.Own
heard_of heard.Whole = model.Whole
heard_of heard.Damaged = model.Damaged
heard_of heard.Unheard = model.Unheard
heard_of heard.Pending = model.Pending

abbrev pub hit_of : Hit → model.Hit
hit_of h = record { tap = h.tap; place = h.place }

abbrev pub record_of : Record → model.Record
record_of r = record {
  tap = r.tap;
  octets = r.octets.items;
  begin = r.begin;
  end = r.end;
  hits = map hit_of r.hits.items;
  heard = r.heard;
}

abbrev pub entry_of : Entry → model.Entry
entry_of (entry.Sent r) = model.Sent (record_of r)
entry_of (entry.Noise begin end) = model.Noise (record { begin = begin; end = end })
