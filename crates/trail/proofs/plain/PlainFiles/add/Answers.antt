use Rattle.std.proofs.Common.{rules, ◌≡◌, [], ◌∷◌, ◌++◌, ap, ◌∙◌}
use Rattle.trail.proofs.PlainLaws.{whole_new}
use Rattle.pc_types.specs.Files.{pwrite}
use Rattle.trail.proofs.plain.PlainFiles.add.Goals as goal

pub returns-clause-added : goal.returns-clause-added
returns-clause-added c =
    let written : c.write.new.self ≡ pwrite [] 0 c.args.bytes.now = search rules in
    let pushed : c.push.new.self.items ≡ c.args.self.now.files.items ++ c.write.new.self ∷ [] = search rules in
    (λ i. record {
      files = (pushed ∙ ap (λ b. c.args.self.now.files.items ++ b ∷ []) (written ∙ whole_new c.args.bytes.now)) i;
      handles = c.args.self.now.handles;
    })
