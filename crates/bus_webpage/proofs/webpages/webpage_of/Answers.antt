use Rattle.std.proofs.Common.{◌++◌, ◌∙◌, ap, List, ℕ, string_bytes}
use Rattle.bus_webpage.specs.Webpages.{opening, closing}
use Rattle.bus_webpage.specs.declared.heads.TheConstants.{BETWEEN}
use Rattle.bus_webpage.proofs.Parts.{joined}
use Rattle.bus_webpage.proofs.webpages.webpage_of.Goals as goal

pub returns : goal.returns
returns c =
    let digits = c.deref.ensures ∙ c.in_ok-digits.ensures in
    joined (opening c.args.purpose) _ BETWEEN.now c.args.trace.now (closing c.args.purpose)
    c.new-text.ensures.bytes c.in_ok-push_opening.ensures
    (c.in_ok-push_str.ensures.bytes
    ∙ ap (λ (t : List ℕ). string_bytes c.push_opening.new.text ++ t) digits)
    c.in_ok-push_between.ensures c.in_ok-push_str-2.ensures.bytes c.in_ok-push_closing.ensures
