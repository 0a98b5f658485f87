-- A capture that is written burst by burst.
use Rattle.std.proofs.Common.{◌≡◌, ap, refl, sym, subst, append_assoc, ℕ, List, [], ◌++◌, Option}
use Rattle.std.specs.Io.KnownBytes.{Appends}
use Rattle.std.proofs.lemmas.List.{append-nil}
use Rattle.std.proofs.lemmas.Grind.{flat_map-append}
use Rattle.pb_timers.specs.Timers.{Params}
use Rattle.pb_monitor.specs.declared.heard_bursts.HeardBurst.{HeardBurst}
use Rattle.pb_export.specs.declared.captures.CaptureExport.{CaptureExport}
use Rattle.pb_export.specs.declared.captures.CaptureForm.{CaptureForm}
use Rattle.pb_export.specs.declared.captures.CaptureForm.TheVariants.{Json, Pcap, Pcapng, Svg}
use Rattle.pb_export.specs.Captures.{burst_of, bursts_of}
use Rattle.pb_cli.specs.declared.drawing.Drawing.{Drawing}
use Rattle.pb_cli.specs.Drawing.{IsOf, drawn}
use Rattle.pb_cli.specs.Monitoring.{WritesCapture, WritesOn, begin_of, picture_in}
use Rattle.pb_cli.proofs.Written.{appends_both, appends_nothing}

-- no bursts
pub no_more : (x : CaptureExport) (drawing : Drawing) (contents : Option (List ℕ)) → WritesOn x drawing drawing contents contents
no_more x drawing contents = record {
  bursts = [];
  text = appends_nothing contents;
  drawing = λ seen picture is. subst (IsOf drawing) (sym (append-nil seen)) is;
}

-- some bursts, and then some more
pub more_still : (x : CaptureExport) (first next last : Drawing) (before mid after : Option (List ℕ)) → WritesOn x first next before mid → WritesOn x next last mid after
    → WritesOn x first last before after
more_still x first next last before mid after w v = record {
  bursts = w.bursts ++ v.bursts;
  text = subst (Appends before after) (sym (flat_map-append (burst_of x) w.bursts v.bursts))
      (appends_both before mid after (bursts_of x w.bursts) (bursts_of x v.bursts) w.text v.text);
  drawing = λ seen picture is. subst (IsOf last) (append_assoc seen w.bursts v.bursts) (v.drawing (seen ++ w.bursts) picture (w.drawing seen picture is));
}

same_picture : (f : CaptureForm) (drawing : Drawing) (bs : List HeardBurst) → (f ≡ Svg → IsOf drawing bs) → picture_in f drawing.bursts.items ≡ picture_in f (drawn bs)
same_picture Json drawing bs is = refl
same_picture Pcap drawing bs is = refl
same_picture Pcapng drawing bs is = refl
same_picture Svg drawing bs is = ap (picture_in Svg) (is refl).bursts

-- all of them
pub ends : (x : CaptureExport) (p : Option Params) (first last : Drawing) (before begun mid after : Option (List ℕ)) → Appends before begun (begin_of x p) → IsOf first []
    → WritesOn x first last begun mid → Appends mid after (picture_in x.form last.bursts.items) → WritesCapture x p before after
ends x p first last before begun mid after head none w picture =
    let text = appends_both before begun mid (begin_of x p) (bursts_of x w.bursts) head w.text in (
      w.bursts,
      appends_both before mid after (begin_of x p ++ bursts_of x w.bursts) (picture_in x.form (drawn w.bursts)) text
          (subst (Appends mid after) (same_picture x.form last w.bursts (λ is. w.drawing [] is none)) picture),
    )
