-- How many acts, and each act.
use Rattle.std.proofs.Common.{vec_items, sym, ap, ◌∙◌}
use Rattle.std.specs.List.{list_all}
use Rattle.words.specs.Values.{act_of, call_of}
use Rattle.encoding.specs.Fits.{act_fits, call_fits}
use Rattle.encoding.proofs.Tested.{few_pass}
use Rattle.encoding.proofs.encode.CallEncode.fits.Goals as goal

pub returns-then-len-le255 : goal.returns-then-len-le255
returns-then-len-le255 c =
    few_pass act_of act_fits (vec_items c.in-Do.acts) c.len.result c.all_fit.result (c.len.ensures ∙ c.in-Do.acts.ok.0) c.if-len-le255.true
    (c.all_fit.ensures ∙ ap (list_all (λ a. act_fits (act_of a))) c.deref.ensures.value)
    ∙ ap (λ x. call_fits (call_of x)) (sym c.in-Do.is)
