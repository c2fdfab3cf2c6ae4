mod MapRunExamples
mod SetRunExamples
