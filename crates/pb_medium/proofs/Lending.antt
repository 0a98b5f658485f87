-- The recent entries of a trace, lent and given back.
use Rattle.std.proofs.Common.{◌≡◌, ◌∙◌, ap, sym, List, length, map, ◌-◌, ◌++◌}
use Rattle.std.specs.Prelude.{take, drop}
use Rattle.std.specs.Vec.{with_items}
use Rattle.pb_taps.proofs.Behind.{lent-back, rest-as}
use Rattle.law_model.specs.Trace as model
use Rattle.pb_medium.specs.declared.entries.Entry.{Entry}
use Rattle.pb_medium.specs.declared.traces.Trace.{Trace}
use Rattle.pb_medium.specs.Entries.{entry_of}
use Rattle.pb_medium.specs.Traces.{entries_of, over_of, recent_of, RecentBecomes, StaysAs}
use borrow.Rule.Slice.PartMut.{put_mid}

-- what was lent
pub lent-as : (t : Trace) (seen : List Entry) → seen ≡ t.entries.items → map entry_of (take (length seen - t.over) (drop t.over seen)) ≡ recent_of t
lent-as t seen is = rest-as entry_of seen t.over ∙ ap (λ xs. drop t.over (map entry_of xs)) is

-- what is given back
pub given-back : (t : Trace) (seen ys : List Entry) (change : List model.Entry → List model.Entry) → seen ≡ t.entries.items → length seen ≡ t.entries.len
    → length ys ≡ length (take (length seen - t.over) (drop t.over seen)) → map entry_of ys ≡ change (map entry_of (take (length seen - t.over) (drop t.over seen)))
    → map entry_of (with_items t.entries (put_mid t.over (length seen - t.over) seen ys)).items ≡ take t.over (entries_of t) ++ change (recent_of t)
given-back t seen ys change is size same changed =
    lent-back entry_of t.entries.len t.over t.entries.items seen ys is (ap length (sym is) ∙ size) t.within same
    ∙ ap (λ es. take t.over (entries_of t) ++ es) (changed ∙ ap change (lent-as t seen is))

-- what becomes of the recent entries, once room has been made
pub after-room : (change : List model.Entry → List model.Entry) (before roomy after : Trace) → StaysAs before roomy → RecentBecomes change roomy after → RecentBecomes change before after
after-room change before roomy after same becomes = record {
  over = becomes.over ∙ same.over;
  limit = becomes.limit ∙ same.limit;
  entries = becomes.entries
      ∙ ap (λ over. take over (entries_of roomy) ++ change (drop over (entries_of roomy))) same.over
      ∙ ap (λ es. take (over_of before) es ++ change (drop (over_of before) es)) same.entries;
}
