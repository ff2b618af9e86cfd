-- How many names, and each name.
use Rattle.std.proofs.Common.{vec_items, ap, ◌∙◌}
use Rattle.std.specs.List.{list_all}
use Rattle.words.specs.Values.{name_of}
use Rattle.encoding.specs.Fits.{name_fits}
use Rattle.encoding.proofs.Tested.{few_pass}
use Rattle.encoding.proofs.encode.PathEncode.fits.Goals as goal

pub returns-then-len-le255 : goal.returns-then-len-le255
returns-then-len-le255 c =
    few_pass name_of name_fits (vec_items c.args.self.now.0) c.len.result c.all_fit.result (c.len.ensures ∙ c.args.self.now.0.ok.0) c.if-len-le255.true
    (c.all_fit.ensures ∙ ap (list_all (λ n. name_fits (name_of n))) c.deref.ensures.value)
