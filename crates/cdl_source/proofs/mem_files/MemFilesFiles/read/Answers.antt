use Rattle.std.proofs.Common.{rules, ap}
use Rattle.cdl_source.proofs.Pieces.{read_step}
use Rattle.cdl_source.proofs.mem_files.MemFilesFiles.read.Goals as goal

pub returns-clause-bytes : goal.returns-clause-bytes
returns-clause-bytes c =
    read_step c.self.inside.files.items c.self.inside.current c.self.inside.at c.self.inside.most c.copy_front-count.result _ c.args.self.now.rest _ c.copy_front-count.new.into
    (search rules) (ap (λ s. s.rest) c.self.view_is) c.copy_front-count.ensures.count c.self.invariant c.copy_front-count.ensures.copied (search rules)
