use Rattle.std.proofs.Common.{◌≡◌, ◌∙◌, ap, ◌++◌, ◌∷◌, [], ℕ}
use Rattle.std.specs.Prelude.{codes, decimal, OnOk}
use Rattle.pb_export.specs.Pieces.{all_of}
use Rattle.pb_texts.proofs.Pieces.{last}
use Rattle.pb_export.proofs.json.push_params.Goals as goal

pub returns : goal.returns
returns c =
    let text = c.args.text.now.items in
    let is : OnOk c.push_pieces.result (c.push_pieces.new.text.items ≡ text ++ all_of ((codes "{\"bus\":{\"tsl\":") ∷ (decimal c.from.result) ∷ (codes ",\"tid1\":") ∷ (decimal c.from-2.result) ∷ (codes ",\"tid2\":") ∷ (decimal c.from-3.result) ∷ (codes ",\"tsdr\":") ∷ (decimal c.from-4.result) ∷ (codes ",\"lag\":") ∷ (decimal c.from-5.result) ∷ (codes ",\"ttr\":") ∷ (decimal c.from-6.result) ∷ (codes ",\"gap\":") ∷ (decimal c.from-7.result) ∷ (codes ",\"hsa\":") ∷ (decimal c.from-8.result) ∷ (codes ",\"retries\":") ∷ (decimal c.from-9.result) ∷ (codes ",\"ttd\":") ∷ (decimal c.from-10.result) ∷ (codes "}") ∷ [])) = c.push_pieces.ensures in
    last c.push_pieces.result text c.push_pieces.new.text.items
    (all_of ((codes "{\"bus\":{\"tsl\":") ∷ (decimal c.from.result) ∷ (codes ",\"tid1\":") ∷ (decimal c.from-2.result) ∷ (codes ",\"tid2\":") ∷ (decimal c.from-3.result) ∷ (codes ",\"tsdr\":") ∷ (decimal c.from-4.result) ∷ (codes ",\"lag\":") ∷ (decimal c.from-5.result) ∷ (codes ",\"ttr\":") ∷ (decimal c.from-6.result) ∷ (codes ",\"gap\":") ∷ (decimal c.from-7.result) ∷ (codes ",\"hsa\":") ∷ (decimal c.from-8.result) ∷ (codes ",\"retries\":") ∷ (decimal c.from-9.result) ∷ (codes ",\"ttd\":") ∷ (decimal c.from-10.result) ∷ (codes "}") ∷ []))
    (all_of ((codes "{\"bus\":{\"tsl\":") ∷ (decimal c.args.params.now.tsl) ∷ (codes ",\"tid1\":") ∷ (decimal c.args.params.now.tid1) ∷ (codes ",\"tid2\":") ∷ (decimal c.args.params.now.tid2) ∷ (codes ",\"tsdr\":") ∷ (decimal c.args.params.now.tsdr) ∷ (codes ",\"lag\":") ∷ (decimal c.args.params.now.lag) ∷ (codes ",\"ttr\":") ∷ (decimal c.args.params.now.ttr) ∷ (codes ",\"gap\":") ∷ (decimal c.args.params.now.gap) ∷ (codes ",\"hsa\":") ∷ (decimal c.args.params.now.hsa) ∷ (codes ",\"retries\":") ∷ (decimal c.args.params.now.retries) ∷ (codes ",\"ttd\":") ∷ (decimal c.args.params.now.ttd) ∷ (codes "}") ∷ []))
    (ap (λ (v : ℕ). all_of ((codes "{\"bus\":{\"tsl\":") ∷ (decimal v) ∷ (codes ",\"tid1\":") ∷ (decimal c.from-2.result) ∷ (codes ",\"tid2\":") ∷ (decimal c.from-3.result) ∷ (codes ",\"tsdr\":") ∷ (decimal c.from-4.result) ∷ (codes ",\"lag\":") ∷ (decimal c.from-5.result) ∷ (codes ",\"ttr\":") ∷ (decimal c.from-6.result) ∷ (codes ",\"gap\":") ∷ (decimal c.from-7.result) ∷ (codes ",\"hsa\":") ∷ (decimal c.from-8.result) ∷ (codes ",\"retries\":") ∷ (decimal c.from-9.result) ∷ (codes ",\"ttd\":") ∷ (decimal c.from-10.result) ∷ (codes "}") ∷ [])) (c.from.ensures ∙ c.tsl.ensures)
    ∙ ap (λ (v : ℕ). all_of ((codes "{\"bus\":{\"tsl\":") ∷ (decimal c.args.params.now.tsl) ∷ (codes ",\"tid1\":") ∷ (decimal v) ∷ (codes ",\"tid2\":") ∷ (decimal c.from-3.result) ∷ (codes ",\"tsdr\":") ∷ (decimal c.from-4.result) ∷ (codes ",\"lag\":") ∷ (decimal c.from-5.result) ∷ (codes ",\"ttr\":") ∷ (decimal c.from-6.result) ∷ (codes ",\"gap\":") ∷ (decimal c.from-7.result) ∷ (codes ",\"hsa\":") ∷ (decimal c.from-8.result) ∷ (codes ",\"retries\":") ∷ (decimal c.from-9.result) ∷ (codes ",\"ttd\":") ∷ (decimal c.from-10.result) ∷ (codes "}") ∷ [])) (c.from-2.ensures ∙ c.tid1.ensures)
    ∙ ap (λ (v : ℕ). all_of ((codes "{\"bus\":{\"tsl\":") ∷ (decimal c.args.params.now.tsl) ∷ (codes ",\"tid1\":") ∷ (decimal c.args.params.now.tid1) ∷ (codes ",\"tid2\":") ∷ (decimal v) ∷ (codes ",\"tsdr\":") ∷ (decimal c.from-4.result) ∷ (codes ",\"lag\":") ∷ (decimal c.from-5.result) ∷ (codes ",\"ttr\":") ∷ (decimal c.from-6.result) ∷ (codes ",\"gap\":") ∷ (decimal c.from-7.result) ∷ (codes ",\"hsa\":") ∷ (decimal c.from-8.result) ∷ (codes ",\"retries\":") ∷ (decimal c.from-9.result) ∷ (codes ",\"ttd\":") ∷ (decimal c.from-10.result) ∷ (codes "}") ∷ [])) (c.from-3.ensures ∙ c.tid2.ensures)
    ∙ ap (λ (v : ℕ). all_of ((codes "{\"bus\":{\"tsl\":") ∷ (decimal c.args.params.now.tsl) ∷ (codes ",\"tid1\":") ∷ (decimal c.args.params.now.tid1) ∷ (codes ",\"tid2\":") ∷ (decimal c.args.params.now.tid2) ∷ (codes ",\"tsdr\":") ∷ (decimal v) ∷ (codes ",\"lag\":") ∷ (decimal c.from-5.result) ∷ (codes ",\"ttr\":") ∷ (decimal c.from-6.result) ∷ (codes ",\"gap\":") ∷ (decimal c.from-7.result) ∷ (codes ",\"hsa\":") ∷ (decimal c.from-8.result) ∷ (codes ",\"retries\":") ∷ (decimal c.from-9.result) ∷ (codes ",\"ttd\":") ∷ (decimal c.from-10.result) ∷ (codes "}") ∷ [])) (c.from-4.ensures ∙ c.tsdr.ensures)
    ∙ ap (λ (v : ℕ). all_of ((codes "{\"bus\":{\"tsl\":") ∷ (decimal c.args.params.now.tsl) ∷ (codes ",\"tid1\":") ∷ (decimal c.args.params.now.tid1) ∷ (codes ",\"tid2\":") ∷ (decimal c.args.params.now.tid2) ∷ (codes ",\"tsdr\":") ∷ (decimal c.args.params.now.tsdr) ∷ (codes ",\"lag\":") ∷ (decimal v) ∷ (codes ",\"ttr\":") ∷ (decimal c.from-6.result) ∷ (codes ",\"gap\":") ∷ (decimal c.from-7.result) ∷ (codes ",\"hsa\":") ∷ (decimal c.from-8.result) ∷ (codes ",\"retries\":") ∷ (decimal c.from-9.result) ∷ (codes ",\"ttd\":") ∷ (decimal c.from-10.result) ∷ (codes "}") ∷ [])) (c.from-5.ensures ∙ c.lag.ensures)
    ∙ ap (λ (v : ℕ). all_of ((codes "{\"bus\":{\"tsl\":") ∷ (decimal c.args.params.now.tsl) ∷ (codes ",\"tid1\":") ∷ (decimal c.args.params.now.tid1) ∷ (codes ",\"tid2\":") ∷ (decimal c.args.params.now.tid2) ∷ (codes ",\"tsdr\":") ∷ (decimal c.args.params.now.tsdr) ∷ (codes ",\"lag\":") ∷ (decimal c.args.params.now.lag) ∷ (codes ",\"ttr\":") ∷ (decimal v) ∷ (codes ",\"gap\":") ∷ (decimal c.from-7.result) ∷ (codes ",\"hsa\":") ∷ (decimal c.from-8.result) ∷ (codes ",\"retries\":") ∷ (decimal c.from-9.result) ∷ (codes ",\"ttd\":") ∷ (decimal c.from-10.result) ∷ (codes "}") ∷ [])) (c.from-6.ensures ∙ c.ttr.ensures)
    ∙ ap (λ (v : ℕ). all_of ((codes "{\"bus\":{\"tsl\":") ∷ (decimal c.args.params.now.tsl) ∷ (codes ",\"tid1\":") ∷ (decimal c.args.params.now.tid1) ∷ (codes ",\"tid2\":") ∷ (decimal c.args.params.now.tid2) ∷ (codes ",\"tsdr\":") ∷ (decimal c.args.params.now.tsdr) ∷ (codes ",\"lag\":") ∷ (decimal c.args.params.now.lag) ∷ (codes ",\"ttr\":") ∷ (decimal c.args.params.now.ttr) ∷ (codes ",\"gap\":") ∷ (decimal v) ∷ (codes ",\"hsa\":") ∷ (decimal c.from-8.result) ∷ (codes ",\"retries\":") ∷ (decimal c.from-9.result) ∷ (codes ",\"ttd\":") ∷ (decimal c.from-10.result) ∷ (codes "}") ∷ [])) (c.from-7.ensures ∙ c.gap.ensures)
    ∙ ap (λ (v : ℕ). all_of ((codes "{\"bus\":{\"tsl\":") ∷ (decimal c.args.params.now.tsl) ∷ (codes ",\"tid1\":") ∷ (decimal c.args.params.now.tid1) ∷ (codes ",\"tid2\":") ∷ (decimal c.args.params.now.tid2) ∷ (codes ",\"tsdr\":") ∷ (decimal c.args.params.now.tsdr) ∷ (codes ",\"lag\":") ∷ (decimal c.args.params.now.lag) ∷ (codes ",\"ttr\":") ∷ (decimal c.args.params.now.ttr) ∷ (codes ",\"gap\":") ∷ (decimal c.args.params.now.gap) ∷ (codes ",\"hsa\":") ∷ (decimal v) ∷ (codes ",\"retries\":") ∷ (decimal c.from-9.result) ∷ (codes ",\"ttd\":") ∷ (decimal c.from-10.result) ∷ (codes "}") ∷ [])) (c.from-8.ensures ∙ c.hsa.ensures.value)
    ∙ ap (λ (v : ℕ). all_of ((codes "{\"bus\":{\"tsl\":") ∷ (decimal c.args.params.now.tsl) ∷ (codes ",\"tid1\":") ∷ (decimal c.args.params.now.tid1) ∷ (codes ",\"tid2\":") ∷ (decimal c.args.params.now.tid2) ∷ (codes ",\"tsdr\":") ∷ (decimal c.args.params.now.tsdr) ∷ (codes ",\"lag\":") ∷ (decimal c.args.params.now.lag) ∷ (codes ",\"ttr\":") ∷ (decimal c.args.params.now.ttr) ∷ (codes ",\"gap\":") ∷ (decimal c.args.params.now.gap) ∷ (codes ",\"hsa\":") ∷ (decimal c.args.params.now.hsa) ∷ (codes ",\"retries\":") ∷ (decimal v) ∷ (codes ",\"ttd\":") ∷ (decimal c.from-10.result) ∷ (codes "}") ∷ [])) (c.from-9.ensures ∙ c.retries.ensures.value)
    ∙ ap (λ (v : ℕ). all_of ((codes "{\"bus\":{\"tsl\":") ∷ (decimal c.args.params.now.tsl) ∷ (codes ",\"tid1\":") ∷ (decimal c.args.params.now.tid1) ∷ (codes ",\"tid2\":") ∷ (decimal c.args.params.now.tid2) ∷ (codes ",\"tsdr\":") ∷ (decimal c.args.params.now.tsdr) ∷ (codes ",\"lag\":") ∷ (decimal c.args.params.now.lag) ∷ (codes ",\"ttr\":") ∷ (decimal c.args.params.now.ttr) ∷ (codes ",\"gap\":") ∷ (decimal c.args.params.now.gap) ∷ (codes ",\"hsa\":") ∷ (decimal c.args.params.now.hsa) ∷ (codes ",\"retries\":") ∷ (decimal c.args.params.now.retries) ∷ (codes ",\"ttd\":") ∷ (decimal v) ∷ (codes "}") ∷ [])) (c.from-10.ensures ∙ c.ttd.ensures)) is
