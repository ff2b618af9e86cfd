-- How many names, and the names.
use Rattle.std.proofs.Common.{ℕ, List, [], ◌∷◌, ◌++◌, vec_items, sym, ap, ◌∙◌, arith}
use Rattle.std.specs.List.{list_all, flat_map}
use Rattle.std.proofs.lemmas.List.{length-map}
use Rattle.std.proofs.lemmas.Result.{on_ok_weaker}
use Rattle.lent_bytes.specs.Paths.{name_bytes, path_bytes}
use Rattle.words.specs.Values.{name_of, path_of}
use Rattle.text.proofs.Appends.{two_parts}
use Rattle.encoding.specs.Fits.{name_fits}
use Rattle.encoding.proofs.Pushes.{names_written}
use Rattle.encoding.proofs.Tested.{few_are, all_pass}
use Rattle.encoding.proofs.encode.PathEncode.encode.Goals as goal

pub encode_all-requires : goal.encode_all-requires
encode_all-requires c = ap (list_all (λ n. name_fits (name_of n))) c.deref.ensures.value ∙ all_pass name_of name_fits (vec_items c.args.self.now.0) c.requires

pub returns : goal.returns
returns c =
    on_ok_weaker c.encode_all.result
    (λ e.
    two_parts (vec_items c.args.out.now) (c.len.result ∷ []) (path_bytes (path_of c.args.self.now)) c.in_ok-push.ensures.items
    (e ∙ ap (λ (xs : List ℕ). vec_items c.push.new.self ++ xs) (ap (flat_map (λ n. name_bytes (name_of n))) c.deref.ensures.value ∙ names_written name_of (vec_items c.args.self.now.0)))
    ∙ ap (λ (n : ℕ). vec_items c.args.out.now ++ (n ∷ path_bytes (path_of c.args.self.now)))
    (c.len.ensures ∙ (c.args.self.now.0.ok.0 ∙ sym (length-map (vec_items c.args.self.now.0) name_of))))
    c.encode_all.ensures

pub overflow_cast-len : goal.overflow_cast-len
overflow_cast-len c =
    let few = few_are name_of name_fits (vec_items c.args.self.now.0) c.len.result (c.len.ensures ∙ c.args.self.now.0.ok.0) c.requires in
    omega arith
