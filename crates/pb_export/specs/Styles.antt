-- The styles and the legend of a picture: what is the same in each.
use Rattle.std.specs.Prelude.{ℕ, List, codes}

unfoldable pub light : List ℕ
light = codes "<style>\ntext{font:11px Helvetica,Arial,sans-serif;fill:#1f2328;pointer-events:none}\n.paper{fill:#fff}\n.line rect{fill:#b7bfc8}\n.scale rect{fill:#e6eaef}\n.scale text{fill:#59636e}\n.name text{font-size:12px;font-weight:bold;text-anchor:end}\n.name tspan{fill:#59636e;font-weight:normal}\n.token rect{fill:#ffe08a;stroke:#7d4e00;stroke-width:2px;rx:6px}\n.request rect{fill:#cfe3ff;stroke:#0550ae}\n.reply rect{fill:#d3f5d9;stroke:#116329;stroke-dasharray:4 2}\n.ack rect{fill:#eadcff;stroke:#6639ba}\n.other rect{fill:#eaeef2;stroke:#59636e}\n.holder rect{fill:#fff4cf;stroke:#b08800}\n.nobody rect{fill:none;stroke:#8c959f;stroke-dasharray:2 3}\n.nobody text{fill:#59636e;font-style:italic}\n.noise rect{fill:url(#grain);stroke:#8c959f}\n.noise text,.hearer text,.step text{paint-order:stroke;stroke:#fff;stroke-width:3px}\n.hatched rect,.hearer rect{fill:url(#hatch);stroke:#cf222e}\n.hatched rect{opacity:.45}\n.hearer text,.step text{font-size:10px}\n.hearer text{fill:#a40e26}\n.step rect{fill:#1f2328;stroke:none}\n.grain{fill:none;stroke:#8c959f;stroke-width:2px}\n.hatch{fill:none;stroke:#cf222e;stroke-width:1.5px}\n"

unfoldable pub dark : List ℕ
dark = codes "@media (prefers-color-scheme:dark){\ntext{fill:#e6edf3}\n.paper{fill:#0d1117}\n.line rect{fill:#57606a}\n.scale rect{fill:#21262d}\n.scale text,.name tspan,.nobody text{fill:#9198a1}\n.token rect{fill:#5a4300;stroke:#e3b341}\n.request rect{fill:#0c2d6b;stroke:#79c0ff}\n.reply rect{fill:#0f3d1c;stroke:#56d364}\n.ack rect{fill:#3c1e70;stroke:#d2a8ff}\n.other rect{fill:#30363d;stroke:#9198a1}\n.holder rect{fill:#3a2d00;stroke:#bb8009}\n.nobody rect{fill:none;stroke:#6e7681}\n.noise rect{fill:url(#grain);stroke:#6e7681}\n.noise text,.hearer text,.step text{stroke:#0d1117}\n.hatched rect,.hearer rect{fill:url(#hatch);stroke:#ff7b72}\n.hearer text{fill:#ff7b72}\n.step rect{fill:#e6edf3}\n.grain{stroke:#6e7681}\n.hatch{stroke:#ff7b72}\n}\n</style>\n"

unfoldable pub patterns : List ℕ
patterns = codes "<defs>\n<pattern id=\"hatch\" width=\"6\" height=\"6\" patternUnits=\"userSpaceOnUse\" patternTransform=\"rotate(45)\"><path class=\"hatch\" d=\"M1 0v6\"/></pattern>\n<pattern id=\"grain\" width=\"5\" height=\"5\" patternUnits=\"userSpaceOnUse\" patternTransform=\"rotate(-45)\"><path class=\"grain\" d=\"M1 0v5\"/></pattern>\n</defs>\n"

unfoldable pub legend : List ℕ
legend = codes "<g class=\"token\"><rect x=\"131\" y=\"8\" width=\"44\" height=\"18\"/><text x=\"137\" y=\"21\">token</text></g>\n<g class=\"request\"><rect x=\"187\" y=\"8\" width=\"54\" height=\"18\"/><text x=\"193\" y=\"21\">request</text></g>\n<g class=\"reply\"><rect x=\"253\" y=\"8\" width=\"42\" height=\"18\"/><text x=\"259\" y=\"21\">reply</text></g>\n<g class=\"ack\"><rect x=\"307\" y=\"8\" width=\"30\" height=\"18\"/><text x=\"313\" y=\"21\">ack</text></g>\n<g class=\"hearer\"><rect x=\"357\" y=\"13\" width=\"30\" height=\"8\"/></g><text x=\"393\" y=\"21\">heard damaged, or not at all</text>\n<g class=\"noise\"><rect x=\"553\" y=\"8\" width=\"30\" height=\"18\"/></g><text x=\"589\" y=\"21\">noise</text>\n<text x=\"640\" y=\"21\">scale: bit times; holder: who has the token</text>\n"

unfoldable pub capture_legend : List ℕ
capture_legend = codes "<g class=\"token\"><rect x=\"131\" y=\"8\" width=\"44\" height=\"18\"/><text x=\"137\" y=\"21\">token</text></g>\n<g class=\"request\"><rect x=\"187\" y=\"8\" width=\"54\" height=\"18\"/><text x=\"193\" y=\"21\">request</text></g>\n<g class=\"reply\"><rect x=\"253\" y=\"8\" width=\"42\" height=\"18\"/><text x=\"259\" y=\"21\">reply</text></g>\n<g class=\"ack\"><rect x=\"307\" y=\"8\" width=\"30\" height=\"18\"/><text x=\"313\" y=\"21\">ack</text></g>\n<g class=\"hearer\"><rect x=\"357\" y=\"13\" width=\"30\" height=\"8\"/></g><text x=\"393\" y=\"21\">damaged, or an alarm</text>\n<text x=\"520\" y=\"21\">scale: bit times; holder: who may send tokens and requests, as far as the monitor knows</text>\n"
